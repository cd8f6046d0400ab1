-- A session that begins.
use Rattle.std.specs.Prelude.{◌≡◌, ◌≤◌, ◌*◌, ℕ, [], List, ◌++◌, None, All}
use Rattle.std.specs.declared.cmp.Ordering.{Ordering}
use Rattle.ppq_pass.specs.ppq_record.Bag.{IsSameBag}
use Rattle.ppq_pass.specs.ppq_outside.Shown.{Shown, AllTell}
use Rattle.ppq_pass.specs.ppq_array.Supply.{Stock}
use Rattle.ppq_pass.specs.ppq_array.Owner.{slots_shown}
use Rattle.ppq_pass.specs.ppq_array.Kept.{SameSlots, AreQuiet, all_writes}
use Rattle.ppq_pass.specs.ppq_budget.Sizes.{pool_of}
use Rattle.ppq_pass.specs.ppq_pool.Seats.{count_of}
use Rattle.ppq_pass.specs.Passed.{PassHolding, PassTells, IsOf}
use Rattle.ppq_pass.specs.declared.shared.Shared.{Shared}
use Rattle.ppq_pass.specs.ppq_counts.Tally.{beginning}
use Rattle.ppq_queue.specs.Holding.{Holding}
use Rattle.ppq_queue.specs.Handed.{IsWhole, holding_of}
use Rattle.ppq_queue.specs.declared.queue_parts.QueueParts.{QueueParts}
use Rattle.ppq_session.specs.BulkSession.{BulkHolding, HasBuffers, HasPool, AreOf, IsFresh, keys_of, bag_of, shared_by}
use Rattle.ppq_session.specs.Equipped.{HasBegun, first_begun}
use Rattle.ppq_session.specs.Shares.{bare, IsFirst}
use Rattle.ppq_session.specs.declared.share.FirstSeats.{FirstSeats}

module _ {S R : Type 0} where
  -- the pass has drawn no slot
  abbrev pub HoldsNoSlot : PassHolding S R → Type 0
  HoldsNoSlot pass = pass.slots ≡ []

  module _ (shown : S → Shown) where
    -- with the free slots and the idle buffers that the session shares, the parts make a sound queue with an empty extract buffer
    pub record IsOpened (cmp : R → R → Ordering) (record_of : List ℕ → R) (width : ℕ) (queue : Holding R) (q : QueueParts S R) (s : FirstSeats S R) : Type 0 where
      pub before : Stock
      pub out : q.supply ≡ bare before
      pub first : IsFirst shown width before s
      pub whole : IsWhole shown cmp record_of width (record q { supply = before })
      pub shows : holding_of shown record_of width (record q { supply = before }) ≡ queue
      pub sound : q.failed ≡ None
      pub extract : q.extract.items ≡ []

    -- A queue whose extract buffer is empty was handed out: the passes have the records of its heaps, in their order, and the bulk has the rest
    pub record HandedOut (q : Holding R) (bulk : BulkHolding S R) (shared : Shared S R) (passes : List (PassHolding S R)) : Type 0 where
      pub of : AreOf bulk (keys_of passes)
      pub shared_is : shared ≡ shared_by bulk
      pub fresh : All IsFresh passes
      pub no_slots : All HoldsNoSlot passes
      pub whole : All HasBegun passes
      pub begun : bulk.begun ≡ q.in_heap
      pub first : first_begun passes ≡ q.in_first
      pub runs : bulk.runs ≡ q.runs
      pub buffers : HasBuffers bulk.sizes bulk.buffers bulk.pool
      pub pool : HasPool bulk.sizes bulk.run_buffers bulk.pool
      pub idle : count_of bulk.pool ≡ q.idle
      pub bag : IsSameBag (bulk.bag ++ bag_of passes) q.bag
      pub slots : bulk.slots ≡ q.slots
      pub items : AllTell q.slots → AllTell (slots_shown shown bulk.items)
      pub size : bulk.size ≡ q.size
      pub peak : bulk.peak ≡ q.peak
      pub limited : bulk.limited ≡ q.limited
      pub sizes : bulk.sizes ≡ q.sizes
      pub counts : bulk.counts ≡ q.counts

    -- A bulk session of a queue began: the passes have the records of its heaps, the first those of the first heap, and the bulk has the rest.
    -- All buffers that no run has are in the pool, which are half of the budget's pool at least. No call of a slot failed, and the session is
    -- counted
    pub record BulkBegan (q : Holding R) (bulk : BulkHolding S R) (shared : Shared S R) (passes : List (PassHolding S R)) : Type 0 where
      pub of : AreOf bulk (keys_of passes)
      pub shared_is : shared ≡ shared_by bulk
      pub passes_of : All (IsOf shared) passes
      pub fresh : All IsFresh passes
      pub no_slots : All HoldsNoSlot passes
      pub whole : All HasBegun passes
      pub begun : bulk.begun ≡ q.in_heap
      pub first : first_begun passes ≡ q.in_first
      pub runs : bulk.runs ≤ 64
      pub buffers : HasBuffers bulk.sizes bulk.buffers bulk.pool
      pub pool : HasPool bulk.sizes bulk.run_buffers bulk.pool
      pub half : pool_of bulk.sizes ≤ 2 * count_of bulk.pool
      pub bag : AllTell q.slots → IsSameBag (bulk.bag ++ bag_of passes) q.bag
      pub quiet : AreQuiet q.slots bulk.slots
      pub slots : SameSlots q.slots bulk.slots
      pub tells : AllTell q.slots → AllTell bulk.slots × All (PassTells shown) passes
      pub writes : all_writes q.slots ≤ all_writes bulk.slots
      pub size : bulk.size ≡ q.size
      pub peak : bulk.peak ≡ q.peak
      pub limited : bulk.limited ≡ q.limited
      pub sizes : bulk.sizes ≡ q.sizes
      pub counts : bulk.counts ≡ beginning q.counts
