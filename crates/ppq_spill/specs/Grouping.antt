-- Groups of blocks that are merged, and written by jobs.
use Rattle.std.specs.Prelude.{◌≡◌, ℕ, ◌+◌, ◌-◌, ◌^◌, ◌<◌, ◌≤◌, List, [], ◌∷◌, ◌++◌, length, map, min, drop, reverse, sum_by, All, Some, IsSome, Option, None, Ok, Err, vec_capacity}
use Rattle.std.specs.declared.cmp.Ordering.{Ordering}
use Rattle.ppq_fetch.specs.ppq_outside.Shown.{Shown}
use Rattle.ppq_fetch.specs.ppq_outside.declared.fault.Failed.{Failed}
use Rattle.ppq_fetch.specs.ppq_block.Block.{Block, holding}
use Rattle.ppq_fetch.specs.ppq_lane.declared.job.Job.{Job}
use Rattle.ppq_fetch.specs.ppq_lane.declared.job.JobKind.TheVariants.{Write}
use Rattle.ppq_fetch.specs.ppq_array.declared.berth.DeviceBlock.{DeviceBlock}
use Rattle.ppq_fetch.specs.ppq_array.Owner.{HasBlock}
use Rattle.ppq_fetch.specs.ppq_array.Run.{Run}
use Rattle.ppq_fetch.specs.ppq_array.External.{External, external, IsLabelled}
use Rattle.ppq_fetch.specs.ppq_record.Bag.{first_of}
use Rattle.ppq_spill.specs.declared.body.PassBody.{PassBody}
use Rattle.ppq_spill.specs.declared.new_array.NewArray.{NewArray}
use Rattle.ppq_spill.specs.Choosing.{OnTree}
use Rattle.ppq_spill.specs.Writing.{MergedOut, Writing}

module _ {R : Type 0} (cmp : R → R → Ordering) (block : ℕ) where
  -- runs and a list were merged into buffers of a block each, one after the other
  abbrev pub MergedInto : List (Block R) → List (Run R) → List R → List (Run R) → List R → Type 0
  MergedInto [] runs rest runs' rest' = (runs' ≡ runs) × (rest' ≡ rest)
  MergedInto (b ∷ bs) runs rest runs' rest' = (mid : List (Run R)) × (over : List R) × (b ≡ holding block b.items) × MergedOut cmp block runs mid rest over b.items × MergedInto bs mid over runs' rest'

module _ {S R : Type 0} where
  -- so many idle buffers of a body may be filled with the smallest records of its runs and of a list from a place on
  pub record MayFillGroup (count : ℕ) (sorted : List R) (at : ℕ) (body : PassBody S R) : Type 0 where
    pub idle : count ≤ length body.lanes.idle
    pub few : length body.lanes.idle < 2 ^ 32 - 1
    pub ready : OnTree sorted at body.runs.internal.items body.tree.items

  -- the runs in blocks, the jobs and the batch of a body are as they were
  pub record SameBeside (old new : PassBody S R) : Type 0 where
    pub external : new.runs.external ≡ old.runs.external
    pub jobs : new.lanes.jobs ≡ old.lanes.jobs
    pub batch : new.lanes.batch ≡ old.lanes.batch

  -- So many idle buffers were filled with the smallest records, in order. Whatever the block size that the idle ones have, it is that of the
  -- filled ones
  pub record FilledGroup (cmp : R → R → Ordering) (count : ℕ) (sorted : List R) (at at' : ℕ) (old new : PassBody S R) (filled : List (Block R)) : Type 0 where
    pub count_is : length filled ≡ count
    pub left : length new.lanes.idle + count ≡ length old.lanes.idle
    pub ready : OnTree sorted at' new.runs.internal.items new.tree.items
    pub leaves : length new.tree.items ≡ length old.tree.items
    pub room : vec_capacity new.runs.internal ≡ vec_capacity old.runs.internal
    pub beside : SameBeside old new
    pub blocks : (block : ℕ) → All (HasBlock block) old.lanes.idle → All (HasBlock block) new.lanes.idle
    pub merged : (block : ℕ) → All (HasBlock block) old.lanes.idle → MergedInto cmp block filled old.runs.internal.items (drop at sorted) new.runs.internal.items (drop at' sorted)

module _ {S R : Type 0} where
  abbrev pub slot_of : Job (DeviceBlock S R) R → DeviceBlock S R
  slot_of j = j.slot

  abbrev pub buf_of : Job (DeviceBlock S R) R → Block R
  buf_of j = j.buf

  abbrev pub IsWrite : Job (DeviceBlock S R) R → Type 0
  IsWrite j = j.kind ≡ Write

  -- the write answered Ok
  abbrev pub IsGood : Job (DeviceBlock S R) R → Type 0
  IsGood j = (u : Unit {0}) × (j.done ≡ Some (Ok u))

  -- the write failed
  abbrev pub IsBad : Job (DeviceBlock S R) R → Type 0
  IsBad j = (e : Failed) × (j.done ≡ Some (Err e))

  -- the block that a job wrote
  abbrev pub block_of : Job (DeviceBlock S R) R → DeviceBlock S R
  block_of j = record { slot = j.slot.slot; minimum = first_of j.buf.items; count = length j.buf.items }

  -- a job that was done, and has a record; where it answered Ok, its slot holds its block
  pub record CanEnd (record_of : List ℕ → R) (width : ℕ) (shown : S → Shown) (j : Job (DeviceBlock S R) R) : Type 0 where
    pub done : IsSome j.done
    pub some : 0 < length j.buf.items
    pub labelled : IsGood j → IsLabelled record_of width shown (block_of j)

  -- how many records the buffers of jobs have
  abbrev pub items_in : List (Job (DeviceBlock S R) R) → ℕ
  items_in jobs = sum_by (λ j. length j.buf.items) jobs

  -- the array with the blocks of jobs behind it
  abbrev pub appended : External S R → List (Job (DeviceBlock S R) R) → External S R
  appended array jobs = external array.level array.loaded [] (array.stored ++ map block_of jobs)

  -- these jobs were good, the next one was not, and these come after it
  pub record StoppedAt (good : List (Job (DeviceBlock S R) R)) (bad : Job (DeviceBlock S R) R) (array array' : External S R) (failed : DeviceBlock S R) : Type 0 where
    pub all_good : All IsGood good
    pub is_bad : IsBad bad
    pub failed_is : failed ≡ bad.slot
    pub array_is : array' ≡ appended array good

  -- jobs that were taken from the end of a list so far, all of them good
  pub record Taking (jobs jobs' : List (Job (DeviceBlock S R) R)) (idle idle' : List (Block R)) (array array' : External S R) : Type 0 where
    pub good : List (Job (DeviceBlock S R) R)
    pub jobs_are : reverse jobs ≡ good ++ reverse jobs'
    pub idle_is : idle' ≡ idle ++ map buf_of good
    pub all_good : All IsGood good
    pub array_is : array' ≡ appended array good

  -- jobs were taken from the end of a list on: all of them, or some up to the first that failed
  abbrev pub Took : List (Job (DeviceBlock S R) R) → List (Job (DeviceBlock S R) R) → List (Block R) → List (Block R) → External S R → External S R → Option (DeviceBlock S R) → Type 0
  Took jobs jobs' idle idle' array array' None = (jobs' ≡ []) × (idle' ≡ idle ++ map buf_of (reverse jobs)) × All IsGood (reverse jobs) × (array' ≡ appended array (reverse jobs))
  Took jobs jobs' idle idle' array array' (Some failed) =
      (good : List (Job (DeviceBlock S R) R)) × (bad : Job (DeviceBlock S R) R)
      × (reverse jobs ≡ good ++ bad ∷ reverse jobs') × (idle' ≡ idle ++ map buf_of (good ++ bad ∷ [])) × StoppedAt good bad array array' failed

  -- a group of which a job failed: the slots after it are left
  abbrev pub GroupStopped : List (Job (DeviceBlock S R) R) → List (DeviceBlock S R) → List (DeviceBlock S R) → External S R → External S R → DeviceBlock S R → Type 0
  GroupStopped jobs berths berths' array array' failed =
      (good : List (Job (DeviceBlock S R) R)) × (bad : Job (DeviceBlock S R) R) × (later : List (Job (DeviceBlock S R) R))
      × (jobs ≡ good ++ bad ∷ later) × (berths' ≡ berths ++ map slot_of later) × StoppedAt good bad array array' failed

  -- What holds between two groups: one is filled, and what was written before it makes up a run. It has as many blocks as a group, or as
  -- there are slots left
  pub record Underway (cmp : R → R → Ordering) (record_of : List ℕ → R) (width block group : ℕ) (shown : S → Shown) (sorted : List R) (runs0 : List (Run R)) (idle0 : List (Block R)) (slots0 : List (DeviceBlock S R)) (body : PassBody S R) (making : NewArray S R) (at : ℕ) (filled : List (Block R)) : Type 0 where
    pub runs_then : List (Run R)
    pub rest_then : List R
    pub writing : Writing cmp record_of width block shown slots0 runs0 sorted making.berths runs_then rest_then making.made
    pub merged : MergedInto cmp block filled runs_then rest_then body.runs.internal.items (drop at sorted)
    pub count : length filled ≡ min group (length making.berths)
    pub idle_left : length body.lanes.idle + length filled ≡ length idle0
    pub blocks : All (HasBlock block) body.lanes.idle
