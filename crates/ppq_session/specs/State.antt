-- What holds of a bulk session while its passes are out.
use Rattle.std.specs.Prelude.{◌≡◌, ℕ, ◌+◌, ◌-◌, ◌≤◌, true, List, [], ◌++◌, length, None}
use Rattle.std.specs.declared.cmp.Ordering.{Ordering}
use Rattle.ppq_pass.specs.ppq_outside.Shown.{Shown}
use Rattle.ppq_pass.specs.ppq_budget.Sizes.{pool_of}
use Rattle.ppq_pass.specs.ppq_array.Supply.{Stock}
use Rattle.ppq_pass.specs.ppq_array.Owner.{slots_shown}
use Rattle.ppq_pass.specs.ppq_array.Holdings.{internal_buffers, external_slots, external_buffers}
use Rattle.ppq_queue.specs.Resting.{runs_bag, count_of}
use Rattle.ppq_session.specs.Apart.{IsApart, IsSoundApart, IsCountedApart}
use Rattle.ppq_session.specs.BulkSession.{BulkHolding}
use Rattle.ppq_session.specs.declared.parts.BulkParts.{BulkParts}

-- the lists of an owner of so many slots and buffers, which have none of them
pub record IsBare (size slots buffers : ℕ) (stock : Stock) : Type 0 where
  pub block : stock.block ≡ size
  pub kept : stock.kept ≡ []
  pub drawn : stock.drawn ≡ []
  pub slot_room : stock.slot_room ≡ slots
  pub sure : stock.sure_buffers ≡ 0
  pub buffer_room : stock.buffer_room ≡ buffers

module _ {S R : Type 0} (shown : S → Shown) where
  -- all slots: those of the runs, and those that were put into the row
  abbrev pub bulk_slots : BulkParts S R → List Shown
  bulk_slots q = external_slots shown q.body.runs.external.items ++ slots_shown shown q.row_seat.hand.items

  -- what a bulk of these parts shows
  abbrev pub bulk_holding : (List ℕ → R) → ℕ → BulkParts S R → BulkHolding S R
  bulk_holding record_of width q =
      record {
        bag = runs_bag shown record_of width q.body;
        size = q.count;
        begun = q.count - count_of q.body;
        runs = length q.body.runs.external.items;
        sizes = q.sizes;
        peak = q.peak;
        limited = q.limited;
        slots = bulk_slots q;
        buffers = internal_buffers q.body.runs.internal.items + external_buffers q.body.runs.external.items + length q.body.lanes.idle;
        run_buffers = internal_buffers q.body.runs.internal.items;
        row = q.row_seat.row;
        items = q.row_seat.hand.items;
        pool = q.pool_seat.pool;
        counts = q.counts;
      }

  -- What holds of all parts: they are those of a queue whose heaps, row, pool and passes' buffers are out. No slot and no buffer is free, and no
  -- record is in the extract buffer
  pub record IsBulk (cmp : R → R → Ordering) (record_of : List ℕ → R) (width : ℕ) (q : BulkParts S R) : Type 0 where
    pub apart : IsApart shown width q None
    pub sound : IsSoundApart shown cmp record_of width q (q.count - count_of q.body) 0
    pub no_extract : q.extract.items ≡ []
    pub supply : IsBare q.sizes.block q.sizes.blocks (pool_of q.sizes) q.supply
    pub counted : count_of q.body ≤ q.count
    pub least : q.count ≤ q.peak
    pub paid : IsCountedApart shown q (q.count - count_of q.body) None

  -- the parts of a bulk whose records are all in runs, at most 64 of them in blocks, in a limit session
  pub record IsAllInRuns (cmp : R → R → Ordering) (record_of : List ℕ → R) (width : ℕ) (q : BulkParts S R) : Type 0 where
    pub bulk : IsBulk cmp record_of width q
    pub all : count_of q.body ≡ q.count
    pub few : length q.body.runs.external.items ≤ 64
    pub limited : q.limited ≡ true
