-- Blocks that are read beside a merge.
use Rattle.std.specs.Prelude.{◌≡◌, ◌≢◌, ℕ, ◌+◌, ◌-◌, ◌*◌, ◌<◌, ◌≤◌, ◌^◌, List, [], ◌∷◌, ◌++◌, length, drop, Some, Ok, Err, IsSome, slice_get}
use Rattle.ppq_array.specs.ppq_block.Block.{Block}
use Rattle.ppq_array.specs.ppq_outside.Shown.{Shown}
use Rattle.ppq_array.specs.ppq_outside.declared.fault.Failed.{Failed}
use Rattle.ppq_array.specs.declared.berth.DeviceBlock.{DeviceBlock}
use Rattle.ppq_array.specs.Run.{run_of, items_of, buffers_of}
use Rattle.ppq_array.specs.External.{External, external, records_in, Accepts, FirstTells, IsLabelled}
use Rattle.ppq_array.specs.Supply.{Stock, GetsSlot, IsSlot}
use Rattle.ppq_array.specs.Holdings.{external_buffers}
use Rattle.ppq_lane.specs.declared.job.Job.{Job}
use Rattle.ppq_lane.specs.declared.job.JobKind.TheVariants.{Read}
use Rattle.ppq_fetch.specs.Fetching.{fronts_in}

-- the run at a place has a stored block
pub record HasStored {S R : Type 0} (arrays : List (External S R)) (at : ℕ) : Type 0 where
  pub array : External S R
  pub here : slice_get arrays at ≡ Some array
  pub stored : 0 < length array.stored

-- The next blocks of two runs may be read: two blocks fewer are loaded ahead than may be
pub record MayReadTwo {S R : Type 0} (arrays : List (External S R)) (ahead first second : ℕ) : Type 0 where
  pub one : HasStored arrays first
  pub other : HasStored arrays second
  pub apart : second ≢ first
  pub room : external_buffers arrays + 2 ≤ fronts_in arrays + ahead

module _ {S R : Type 0} (record_of : List ℕ → R) (width : ℕ) (shown : S → Shown) where
  -- The first stored block of a run left in a job, which reads it into the first idle buffer
  pub record BlockLifted (old new : External S R) (idle idle' : List (Block R)) (job : Job (DeviceBlock S R) R) : Type 0 where
    pub stored : old.stored ≡ job.slot ∷ new.stored
    pub array : new ≡ external old.level old.loaded (old.lifted ++ job.slot ∷ []) new.stored
    pub taken : idle ≡ job.buf ∷ idle'
    pub kind : job.kind ≡ Read job.slot.count
    pub labelled : IsLabelled record_of width shown job.slot

  -- The job was done, and where its read did not fail, its buffer has the run's first lifted block; the supply can take its slot
  pub record MayLand (job : Job (DeviceBlock S R) R) (a : External S R) (stock : Stock) : Type 0 where
    pub done : IsSome job.done
    pub accepts : (u : Unit {0}) → job.done ≡ Some (Ok u) → Accepts record_of width shown a.lifted job.buf
    pub room : 0 < stock.slot_room
    pub slot : IsSlot (stock.block * width) (shown job.slot.slot)
    pub few : length (buffers_of a.loaded) < 2 ^ 32 - 1

  -- The block that was lifted first is loaded, and its slot went to the supply
  pub record BlockLanded (job : Job (DeviceBlock S R) R) (old new : External S R) (before now : Stock) : Type 0 where
    pub answer : Unit {0}
    pub done : job.done ≡ Some (Ok answer)
    pub loaded : new.loaded ≡ run_of (old.loaded.live ++ job.buf ∷ []) old.loaded.taken old.loaded.spent
    pub items : items_of new.loaded ≡ items_of old.loaded ++ job.buf.items
    pub same : FirstTells record_of width shown old.lifted → records_in record_of width shown new ≡ records_in record_of width shown old
    pub rest : new ≡ external old.level new.loaded (drop 1 old.lifted) old.stored
    pub freed : GetsSlot before (shown job.slot.slot) now

-- The read of the slot with that number failed, and the slot went to the supply
pub record BlockFailed {S R : Type 0} (shown : S → Shown) (number : ℕ) (job : Job (DeviceBlock S R) R) (before now : Stock) : Type 0 where
  pub answer : Failed
  pub done : job.done ≡ Some (Err answer)
  pub named : number ≡ (shown job.slot.slot).number
  pub freed : GetsSlot before (shown job.slot.slot) now
