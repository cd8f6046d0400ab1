-- Runs that are merged into blocks and written, one after the other.
use Rattle.std.specs.Prelude.{◌≡◌, ℕ, ◌+◌, ◌*◌, ◌<◌, ◌≤◌, ◌-◌, ◌^◌, List, [], ◌∷◌, ◌++◌, length, min, map, All, Option, Some, None, vec_capacity}
use Rattle.std.specs.declared.cmp.Ordering.{Ordering}
use Rattle.std.specs.List.{AllZip}
use Rattle.ppq_fetch.specs.ppq_record.Order.{Ascends}
use Rattle.ppq_fetch.specs.ppq_record.Bag.{IsSameBag}
use Rattle.ppq_fetch.specs.ppq_block.Block.{Block, IsSettled}
use Rattle.ppq_fetch.specs.ppq_outside.Shown.{Shown, Tells, AllTell}
use Rattle.ppq_fetch.specs.ppq_outside.Told.{Rose}
use Rattle.ppq_fetch.specs.ppq_array.declared.berth.DeviceBlock.{DeviceBlock}
use Rattle.ppq_fetch.specs.ppq_array.Run.{Run, run_of, items_of, buffers_of}
use Rattle.ppq_fetch.specs.ppq_array.External.{External, external, size_of, records_in, block_items, IsPacked}
use Rattle.ppq_fetch.specs.ppq_array.Owner.{slots_shown, HasBlock, HasSlot}
use Rattle.ppq_fetch.specs.ppq_array.Kept.{MoreWrites, AreQuiet}
use Rattle.ppq_fetch.specs.ppq_array.Supply.{IsSlot}
use Rattle.ppq_fetch.specs.ppq_array.Holdings.{internal_items}
use Rattle.ppq_fetch.specs.Taking.{NoneAfter}
use Rattle.ppq_spill.specs.declared.body.PassBody.{PassBody}
use Rattle.ppq_spill.specs.declared.new_array.NewArray.{NewArray}
use Rattle.ppq_spill.specs.Went.{WentWriting, AtLeast}

-- a slot after a write was called: the same slot, and no count of it fell
pub record Grew (before now : Shown) : Type 0 where
  pub number : now.number ≡ before.number
  pub size : now.size ≡ before.size
  pub faults : before.faults ≤ now.faults
  pub writes : before.writes ≤ now.writes
  pub reads : now.reads ≡ before.reads
  pub tells : Tells before → Tells now
  pub told : Tells now → Tells before

-- the slot was written since, and no call of it failed
pub record WroteWell (before now : Shown) : Type 0 where
  pub number : now.number ≡ before.number
  pub writes : Rose before.writes now.writes
  pub quiet : now.faults ≡ before.faults

-- Of slots in their order, those in front were written, and no call of them failed: this is what they are now. These are left
pub record WroteFront (slots now left : List Shown) : Type 0 where
  pub front : List Shown
  pub order : slots ≡ front ++ left
  pub well : AllZip WroteWell front now

-- Of slots in their order, those in front of one were written, and no call of them failed: this is what they are now. A call of that one
-- failed, and so it is now
pub record FirstFailed (slots now : List Shown) (failed : Shown) : Type 0 where
  pub front : List Shown
  pub first : Shown
  pub behind : List Shown
  pub order : slots ≡ front ++ first ∷ behind
  pub well : AllZip WroteWell front now
  pub number : failed.number ≡ first.number
  pub rose : Rose first.faults failed.faults

module _ {R : Type 0} where
  -- what is left to merge: the records of runs and those of a list
  abbrev pub left_in : List (Run R) → List R → List R
  left_in runs rest = internal_items runs ++ rest

  -- all of it ascends
  abbrev pub AllAscend : (R → R → Ordering) → List (Run R) → List R → Type 0
  AllAscend cmp runs rest = All (λ (run : Run R). Ascends cmp (items_of run)) runs × Ascends cmp rest

  -- how many records the first of some buffers can hold
  abbrev pub block_in : List (Block R) → ℕ
  block_in [] = 0
  block_in (b ∷ bs) = b.block

  -- as many buffers as before, all of one block size
  pub record SameBuffers (block : ℕ) (old new : List (Block R)) : Type 0 where
    pub long : length new ≡ length old
    pub blocks : All (HasBlock block) new

  -- so many records were merged out of runs and a list; where all of it ascends, the smallest
  pub record MergedOut (cmp : R → R → Ordering) (most : ℕ) (runs runs' : List (Run R)) (rest rest' out : List R) : Type 0 where
    pub count : length out ≡ min most (length (left_in runs rest))
    pub bag : IsSameBag (left_in runs rest) (out ++ left_in runs' rest')
    pub buffers : map buffers_of runs' ≡ map buffers_of runs
    pub ascends : AllAscend cmp runs rest → Ascends cmp out × NoneAfter cmp out (left_in runs' rest') × AllAscend cmp runs' rest'

module _ {S R : Type 0} where
  -- a buffer's records are the last block of a run now
  pub record BlockStored (record_of : List ℕ → R) (width : ℕ) (shown : S → Shown) (slot : S) (items : List R) (old new : External S R) : Type 0 where
    pub last : DeviceBlock S R
    pub run : new ≡ external old.level old.loaded [] (old.stored ++ last ∷ [])
    pub count : last.count ≡ length items
    pub grew : Grew (shown slot) (shown last.slot)
    pub well : WroteWell (shown slot) (shown last.slot)
    pub written : 1 ≤ (shown last.slot).writes
    pub transfers : MoreWrites 1 (shown slot ∷ []) (shown last.slot ∷ [])
    pub each : AtLeast 1 (shown slot ∷ []) (shown last.slot ∷ [])
    pub items_are : Tells (shown slot) → block_items record_of width shown last ≡ items

  -- the write of a block failed
  pub record BlockFailed (shown : S → Shown) (slot : S) (old new : External S R) (berth : DeviceBlock S R) : Type 0 where
    pub run : new ≡ old
    pub grew : Grew (shown slot) (shown berth.slot)
    pub transfers : MoreWrites 0 (shown slot ∷ []) (shown berth.slot ∷ [])
    pub rose : Rose (shown slot).faults (shown berth.slot).faults

  -- a buffer's records may become the last block of a run, in this slot
  pub record MayAppend (shown : S → Shown) (width : ℕ) (slot : S) (buf : Block R) (array : External S R) : Type 0 where
    pub none_lifted : array.lifted ≡ []
    pub some : 0 < length buf.items
    pub settled : IsSettled buf
    pub within : length buf.items ≤ buf.block
    pub fits : IsSlot (buf.block * width) (shown slot)
    pub room : length array.stored < 2 ^ 32 - 1
    pub few : size_of array + length buf.items < 2 ^ 64

  -- how the write of a block ends
  abbrev pub BlockEnds : (List ℕ → R) → ℕ → (S → Shown) → S → List R → External S R → External S R → Option (DeviceBlock S R) → Type 0
  BlockEnds record_of width shown slot items old new None = BlockStored record_of width shown slot items old new
  BlockEnds record_of width shown slot items old new (Some failed) = BlockFailed shown slot old new failed

  -- From slots, runs and a list at the beginning to what was written of them so far, and what is left
  pub record Writing (cmp : R → R → Ordering) (record_of : List ℕ → R) (width block : ℕ) (shown : S → Shown) (slots0 : List (DeviceBlock S R)) (runs0 : List (Run R)) (rest0 : List R) (slots : List (DeviceBlock S R)) (runs : List (Run R)) (rest : List R) (array : External S R) : Type 0 where
    pub sizes : All (HasSlot shown (block * width)) (array.stored ++ slots)
    pub shape : array ≡ external 0 (run_of [] 0 []) [] array.stored
    pub size : size_of array + length (left_in runs rest) ≡ length (left_in runs0 rest0)
    pub room : length (left_in runs rest) ≤ length slots * block
    pub least : 0 < length slots → length slots * block < length (left_in runs rest) + block
    pub buffers : map buffers_of runs ≡ map buffers_of runs0
    pub written : All (λ (b : DeviceBlock S R). 1 ≤ (shown b.slot).writes) array.stored
    pub in_order : WroteFront (slots_shown shown slots0) (slots_shown shown array.stored) (slots_shown shown slots)
    pub went : WentWriting (length array.stored) (slots_shown shown slots0) (slots_shown shown array.stored ++ slots_shown shown slots)
    pub quiet : AreQuiet (slots_shown shown slots0) (slots_shown shown array.stored ++ slots_shown shown slots)
    pub each : AtLeast (length array.stored) (slots_shown shown slots0) (slots_shown shown array.stored ++ slots_shown shown slots)
    pub full : 0 < length slots → All (λ (b : DeviceBlock S R). b.count ≡ block) array.stored
    pub packed : IsPacked block array.stored
    pub tells : AllTell (slots_shown shown slots0) → AllTell (slots_shown shown slots)
    pub ascends : AllTell (slots_shown shown slots0) → AllAscend cmp runs0 rest0 → AllAscend cmp runs rest × Ascends cmp (records_in record_of width shown array) × NoneAfter cmp (records_in record_of width shown array) (left_in runs rest)
    pub records : AllTell (slots_shown shown slots0) → IsSameBag (left_in runs0 rest0) (records_in record_of width shown array ++ left_in runs rest)

  -- A write failed: that slot, those that hold blocks now and those that are left are the slots from before, and it is the first of which a
  -- call failed. Each was written once at most, those that are left too
  pub record WriteFailed (shown : S → Shown) (bytes : ℕ) (slots0 : List (DeviceBlock S R)) (runs0 : List (Run R)) (slots : List (DeviceBlock S R)) (runs : List (Run R)) (array : External S R) (failed : DeviceBlock S R) : Type 0 where
    pub sizes : All (HasSlot shown bytes) (array.stored ++ failed ∷ slots)
    pub shape : array ≡ external 0 (run_of [] 0 []) [] array.stored
    pub went : WentWriting (length slots0) (slots_shown shown slots0) (slots_shown shown array.stored ++ (shown failed.slot ∷ slots_shown shown slots))
    pub buffers : map buffers_of runs ≡ map buffers_of runs0
    pub first : FirstFailed (slots_shown shown slots0) (slots_shown shown array.stored) (shown failed.slot)

  -- the runs of a body and a list may be merged into as many blocks as there are slots, by its tree and with its idle buffers
  pub record MayWriteRuns (shown : S → Shown) (width block : ℕ) (body : PassBody S R) (rest : List R) (making : NewArray S R) : Type 0 where
    pub some : 1 ≤ block
    pub leaves : length body.runs.internal.items < length body.tree.items
    pub idle : 0 < length body.lanes.idle
    pub few_idle : length body.lanes.idle < 2 ^ 32 - 1
    pub blocks : All (HasBlock block) body.lanes.idle
    pub no_job : body.lanes.jobs.items ≡ []
    pub empty : making.made ≡ external 0 (run_of [] 0 []) [] []
    pub few : length rest + length (internal_items body.runs.internal.items) < 2 ^ 32 - 1
    pub few_slots : length making.berths < 2 ^ 32 - 1
    pub sizes : All (HasSlot shown (block * width)) making.berths
    pub room : length (left_in body.runs.internal.items rest) ≤ length making.berths * block
    pub least : length making.berths * block < length (left_in body.runs.internal.items rest) + block

  -- What writing leaves of a body: its tree has as many leaves, as many buffers are idle, there is no job, and lists have the room that they
  -- had; the batch and the runs in blocks are as they were
  pub record BodyRests (block : ℕ) (old new : PassBody S R) : Type 0 where
    pub leaves : length new.tree.items ≡ length old.tree.items
    pub idle : SameBuffers block old.lanes.idle new.lanes.idle
    pub no_job : new.lanes.jobs.items ≡ []
    pub job_room : vec_capacity new.lanes.jobs ≡ vec_capacity old.lanes.jobs
    pub batch : new.lanes.batch ≡ old.lanes.batch
    pub internal_room : vec_capacity new.runs.internal ≡ vec_capacity old.runs.internal
    pub external : new.runs.external ≡ old.runs.external

  -- how it ends: all is written and no slot is left, or a write failed
  abbrev pub RunsEnd : (R → R → Ordering) → (List ℕ → R) → ℕ → ℕ → (S → Shown) → List R → PassBody S R → PassBody S R → NewArray S R → NewArray S R → Option (DeviceBlock S R) → Type 0
  RunsEnd cmp record_of width block shown rest old new making making' None = Writing cmp record_of width block shown making.berths old.runs.internal.items rest [] new.runs.internal.items [] making'.made
  RunsEnd cmp record_of width block shown rest old new making making' (Some failed) = WriteFailed shown (block * width) making.berths old.runs.internal.items making'.berths new.runs.internal.items making'.made failed
