-- A queue that is handed over in its parts.
use Rattle.std.specs.Prelude.{◌≡◌, ℕ, ◌+◌, ◌≤◌, Bool, List, [], ◌++◌, length, Option, None, vec_capacity}
use Rattle.std.specs.declared.cmp.Ordering.{Ordering}
use Rattle.ppq_extract.specs.ppq_outside.Shown.{Shown}
use Rattle.ppq_extract.specs.ppq_budget.Sizes.{pool_of, lane_buffers}
use Rattle.ppq_heap.specs.Heaps.{Shares, items_of, share_at}
use Rattle.ppq_spill.specs.ppq_counts.Account.{IsCounted}
use Rattle.ppq_spill.specs.ppq_counts.Tally.{Tally}
use Rattle.ppq_queue.specs.Holding.{Holding}
use Rattle.ppq_queue.specs.Paying.{whole_account, heaps_account}
use Rattle.ppq_queue.specs.Resting.{slots_of, runs_bag, crowd_of}
use Rattle.ppq_queue.specs.State.{IsQueue, IsSound}
use Rattle.ppq_queue.specs.declared.store.Store.{Store}
use Rattle.ppq_queue.specs.declared.queue_parts.QueueParts.{QueueParts}

module _ {S R : Type 0} (shown : S → Shown) where
  -- what a queue of these parts shows
  abbrev pub holding_of : (List ℕ → R) → ℕ → QueueParts S R → Holding R
  holding_of record_of width q =
      record {
        bag = items_of q.heaps ++ q.extract.items ++ runs_bag shown record_of width q.body;
        size = q.count;
        sizes = q.sizes;
        peak = q.peak;
        slots = slots_of shown q.body q.supply;
        free = length q.supply.kept;
        failed = q.failed;
        in_heap = length (items_of q.heaps);
        in_first = length (share_at q.heaps 0);
        in_extract = length q.extract.items;
        runs = length q.body.runs.external.items;
        crowd = crowd_of q.body.runs.external.items;
        buffers = lane_buffers q.sizes + pool_of q.sizes;
        idle = q.supply.sure_buffers;
        limited = q.limited;
        counts = q.counts;
      }

  -- what a queue of this store and these heaps shows
  abbrev pub viewed : (List ℕ → R) → ℕ → Store S R → Shares R → (count peak : ℕ) → (failed : Option ℕ) → (limited : Bool) → (counts : Tally) → Holding R
  viewed record_of width store heaps count peak failed limited counts =
      record {
        bag = items_of heaps ++ store.extract.items ++ runs_bag shown record_of width store.body;
        size = count;
        sizes = store.sizes;
        peak = peak;
        slots = slots_of shown store.body store.supply;
        free = length store.supply.kept;
        failed = failed;
        in_heap = length (items_of heaps);
        in_first = length (share_at heaps 0);
        in_extract = length store.extract.items;
        runs = length store.body.runs.external.items;
        crowd = crowd_of store.body.runs.external.items;
        buffers = lane_buffers store.sizes + pool_of store.sizes;
        idle = store.supply.sure_buffers;
        limited = limited;
        counts = counts;
      }

  -- What holds between its calls of a queue of this store and these heaps, with so much room in its list of slots. Its numbers pay for what
  -- was written, and while no block failed for what is owed
  pub record QueueStands (cmp : R → R → Ordering) (record_of : List ℕ → R) (width : ℕ) (store : Store S R) (heaps : Shares R) (count peak : ℕ) (failed : Option ℕ) (limited : Bool) (counts : Tally) (room : ℕ) : Type 0 where
    pub queue : IsQueue shown store.sizes heaps store.extract store.body store.supply count peak failed
    pub sound : failed ≡ None → IsSound shown cmp record_of width store.sizes heaps store.extract store.body store.supply store.sources count peak limited
    pub counted : IsCounted store.sizes.workers store.sizes.block (failed ≡ None) counts (heaps_account shown heaps store)
    pub slots_room : store.sizes.blocks ≤ room

  -- the parts make a queue: what holds of it between its calls holds of them
  pub record IsWhole (cmp : R → R → Ordering) (record_of : List ℕ → R) (width : ℕ) (q : QueueParts S R) : Type 0 where
    pub queue : IsQueue shown q.sizes q.heaps q.extract q.body q.supply q.count q.peak q.failed
    pub sound : q.failed ≡ None → IsSound shown cmp record_of width q.sizes q.heaps q.extract q.body q.supply q.sources q.count q.peak q.limited
    pub counted : IsCounted q.sizes.workers q.sizes.block (q.failed ≡ None) q.counts (whole_account shown q.sizes (length (items_of q.heaps)) q.body q.supply)
    pub no_slot : q.slots.items ≡ []
    pub slots_room : q.sizes.blocks ≤ vec_capacity q.slots
