-- How a session of either kind ends.
use Rattle.std.specs.Prelude.{◌≡◌, ℕ, ◌+◌, ◌*◌, ◌<◌, ◌≤◌, Bool, true, Any, List, [], ◌∷◌, ◌++◌, max, min, map, sum_by, flat_map, Option, Some, None, Result, Err, All}
use Rattle.std.specs.Option.{option_or}
use Rattle.ppq_pass.specs.ppq_record.Bag.{IsSameBag}
use Rattle.ppq_pass.specs.ppq_outside.Shown.{Shown, AllTell}
use Rattle.ppq_pass.specs.ppq_budget.Sizes.{Numbers, heap_of, blocks_for, room_of}
use Rattle.ppq_pass.specs.ppq_array.Kept.{SameSlots, AreQuiet, all_writes}
use Rattle.ppq_pass.specs.Passed.{PassHolding, PassTells}
use Rattle.ppq_queue.specs.Holding.{Holding, IsAbove, HasStopped}
use Rattle.ppq_pass.specs.ppq_array.declared.store_fault.StoreFault.{StoreFault as QueueFault}
use Rattle.ppq_pass.specs.ppq_array.declared.store_fault.StoreFault.TheVariants.{NoFreeBlock, Device}
use Rattle.ppq_pass.specs.ppq_counts.Tally.{Tally}
use Rattle.ppq_session.specs.declared.fault.SessionEnd.{SessionEnd}
use Rattle.ppq_session.specs.declared.fault.SessionEnd.TheVariants.{Whole, Stopped}
use Rattle.ppq_session.specs.Counting.{tally_with}
pub use Rattle.ppq_session.specs.Counting.{accepted_of}

-- What the owner of a queue keeps while a session is on: the multiset of its records, as far as its slots tell; how many it counts, and how many
-- were popped; its sizes; the greatest size when the session began; whether a limit session was begun; all slots; the number of the slot a
-- call of which failed first, if any; and how many records, stores of a full heap and sessions the queue counts
pub record Staying (R : Type 0) : Type 0 where
  pub bag : List R
  pub size : ℕ
  pub popped : ℕ
  pub sizes : Numbers
  pub peak : ℕ
  pub limited : Bool
  pub slots : List Shown
  pub failed : Option ℕ
  pub counts : Tally

-- No block was free for a merge of levels, of which one has more than 8 runs still: the device has fewer blocks than are enough for the peak,
-- which is above what one heap holds, unless a limit session was begun
pub record HasNoBlock {R : Type 0} (queue : Holding R) : Type 0 where
  pub crowded : 8 < queue.crowd
  pub free : queue.free < max (8 + queue.sizes.workers) (blocks_for queue.sizes queue.size)
  pub room : queue.sizes.blocks < room_of queue.sizes queue.peak
  pub above : IsAbove queue.sizes queue.peak queue.limited

-- the first of these numbers, in their order, and else this one, if there is one
abbrev pub first_some : List (Option ℕ) → Option ℕ → Option ℕ
first_some [] other = other
first_some (x ∷ xs) other = option_or x (first_some xs other)

-- how many records there can ever be: as many as the budget has, and the device
abbrev pub most_at_once : Numbers → ℕ
most_at_once sizes = sizes.memory + sizes.block * sizes.blocks

module _ {S R : Type 0} where
  -- the number that the first pass in order kept which met a fault, and else this one, if there is one
  abbrev pub first_fault : List (PassHolding S R) → Option ℕ → Option ℕ
  first_fault passes other = first_some (map (λ p. p.failed) passes) other

  -- if there is one, it is the fault that a result names
  abbrev pub NamesFirst : {T : Type 0} → List (PassHolding S R) → Option ℕ → Result T QueueFault → Type 0
  NamesFirst passes other result = (number : ℕ) → first_fault passes other ≡ Some number → result ≡ Err (Device number)

  -- the records of passes
  abbrev pub bag_of : List (PassHolding S R) → List R
  bag_of passes = flat_map (λ p. p.bag) passes

  -- A call of the slot with this number failed, and the queue keeps that number. It counts what stayed and what its passes accepted, as far as
  -- there can be so many records
  pub record HasLost (stay : Staying R) (passes : List (PassHolding S R)) (number : ℕ) (queue : Holding R) : Type 0 where
    pub stopped : HasStopped number queue
    pub size : queue.size ≡ min (stay.size + accepted_of passes) (most_at_once stay.sizes)

  module _ (shown : S → Shown) (stay : Staying R) (passes : List (PassHolding S R)) (queue : Holding R) where
    -- The queue has all records of what stayed and of its passes, where their slots tell, and counts them; no call of a slot failed. Records
    -- that were popped count in the peak
    pub record HasAll : Type 0 where
      pub bag : AllTell stay.slots → All (PassTells shown) passes → IsSameBag queue.bag (stay.bag ++ bag_of passes)
      pub size : queue.size ≡ stay.size + accepted_of passes
      pub peak : queue.peak ≡ max stay.peak (stay.size + stay.popped + accepted_of passes)
      pub sound : queue.failed ≡ None
      pub quiet : AreQuiet stay.slots queue.slots
      pub limited : queue.limited ≡ stay.limited
      pub no_fault : (stay.failed ≡ None) × All (λ (p : PassHolding S R). p.failed ≡ None) passes
      -- where a push was refused for want of blocks, the device has fewer than are enough for the peak
      pub short : Any (λ (p : PassHolding S R). p.refused ≡ true) passes → (stay.sizes.blocks < room_of stay.sizes queue.peak) × (heap_of stay.sizes ≤ queue.size)

    -- how a session ended, and what the queue has then
    abbrev pub EndsWith : SessionEnd → Type 0
    EndsWith Whole = HasAll
    EndsWith (Stopped NoFreeBlock) = HasAll × HasNoBlock queue
    EndsWith (Stopped (Device number)) = HasLost stay passes number queue

    -- how a session ended, and what it left of its slots and sizes. A fault that was met before is named: that of the first pass in order that
    -- met one, and else that of what stayed. The numbers of the passes came on top, and heaps have no record that those of passes had not
    pub record SessionEnded (end : SessionEnd) : Type 0 where
      pub end_is : EndsWith end
      pub first : (number : ℕ) → first_fault passes stay.failed ≡ Some number → end ≡ Stopped (Device number)
      pub settled : end ≡ Whole → queue.runs ≤ 64
      pub slots : SameSlots stay.slots queue.slots
      pub tells : AllTell stay.slots → All (PassTells shown) passes → AllTell queue.slots
      pub writes : all_writes stay.slots ≤ all_writes queue.slots
      pub sizes : queue.sizes ≡ stay.sizes
      pub limited : queue.limited ≡ stay.limited
      pub counts : queue.counts ≡ tally_with stay.counts passes
      pub heaps : queue.in_heap ≤ sum_by (λ p. p.in_heap) passes
