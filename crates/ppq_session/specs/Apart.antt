-- What a queue is while a session is on: the row of its free slots, the pool of its idle buffers, two buffers for each pass and its heaps
-- are out.
use Rattle.std.specs.Prelude.{◌≡◌, ℕ, ◌+◌, ◌-◌, ◌*◌, ◌<◌, ◌≤◌, Vec, List, [], ◌++◌, length, reverse, sum_by, Option, Some, None, All, vec_capacity}
use Rattle.std.specs.Global.{Global}
use Rattle.std.specs.declared.cmp.Ordering.{Ordering}
use Rattle.ppq_pass.specs.ppq_record.Order.{Ascends}
use Rattle.ppq_pass.specs.ppq_outside.Shown.{Shown, AllTell}
use Rattle.ppq_pass.specs.ppq_budget.Sizes.{Numbers, AreInRange, fixed_of, batch_of, pool_of, lane_buffers}
use Rattle.ppq_pass.specs.ppq_table.Sums.{all_shares}
use Rattle.ppq_pass.specs.ppq_tree.Tree.{Leaves}
use Rattle.ppq_pass.specs.ppq_heap.Heap.{Contents}
use Rattle.ppq_pass.specs.ppq_array.declared.berth.DeviceBlock.{DeviceBlock}
use Rattle.ppq_pass.specs.ppq_array.Owner.{slots_shown, HasSlot, HasBlock}
use Rattle.ppq_pass.specs.ppq_array.Kept.{HasFailed, all_overreads}
use Rattle.ppq_pass.specs.ppq_array.Holdings.{external_buffers}
use Rattle.ppq_pass.specs.ppq_fetch.Fetching.{fronts_in}
use Rattle.ppq_pass.specs.ppq_fetch.Taking.{NoneAfter}
use Rattle.ppq_pass.specs.ppq_extract.Extracted.{ServesFor}
use Rattle.ppq_pass.specs.ppq_pool.Known.{Known as PoolKnown}
use Rattle.ppq_pass.specs.ppq_pool.Seats.{count_of as pool_count}
use Rattle.ppq_pass.specs.ppq_row.Known.{Known as RowKnown}
use Rattle.ppq_pass.specs.ppq_counts.Account.{Account, IsCountedBeside}
use Rattle.ppq_pass.specs.ppq_spill.Body.{held_by}
use Rattle.ppq_pass.specs.ppq_spill.Costing.{body_account}
use Rattle.ppq_pass.specs.Passed.{PassKey, PassHolding}
use Rattle.ppq_pass.specs.declared.shared.PoolBuf.{PoolBuf}
use Rattle.ppq_pass.specs.declared.shared.Shared.{Shared}
use Rattle.ppq_session.specs.Bringing.{BroughtAll}
use Rattle.ppq_queue.specs.Holding.{IsAbove}
use Rattle.ppq_queue.specs.Resting.{IsRestingRun, IsRestingArray, AllRise, runs_bag, count_of, odd_in, slots_of}
use Rattle.ppq_session.specs.Ends.{Staying}
use Rattle.ppq_session.specs.declared.brought.Brought.{Brought}
use Rattle.ppq_session.specs.declared.parts.BulkParts.{BulkParts}

-- the parts of a queue while a session is on
abbrev pub BulkHeld : Type 0 → Type 0 → Type 0
BulkHeld S R = BulkParts S R

module _ {S R : Type 0} where
  -- how many records are in no heap
  abbrev pub in_runs : BulkParts S R → ℕ
  in_runs q = length q.extract.items + count_of q.body

  -- the key of a pass of the session that began with so many records
  abbrev pub apart_key : BulkParts S R → ℕ → PassKey S R
  apart_key q begun =
      record { row = q.row_seat.row; pool = q.pool_seat.pool; items = q.row_seat.hand.items; row_shares = 1; pool_shares = 1; sizes = q.sizes; begun = begun }

  module _ (shown : S → Shown) where
    -- all slots: those of the runs, the free ones, and those that were put into the row
    abbrev pub apart_slots : BulkParts S R → List Shown
    apart_slots q = slots_of shown q.body q.supply ++ slots_shown shown q.row_seat.hand.items

    -- what stays, of which so many records were popped
    abbrev pub staying : (List ℕ → R) → ℕ → BulkParts S R → ℕ → Option ℕ → Staying R
    staying record_of width q popped failed =
        record { bag = q.extract.items ++ runs_bag shown record_of width q.body; size = q.count; popped = popped; sizes = q.sizes; peak = q.peak; limited = q.limited; slots = apart_slots q; failed = failed; counts = q.counts }

    -- what was written, and what the runs may still cost
    abbrev pub apart_account : BulkParts S R → Account
    apart_account q = body_account q.sizes.block (apart_slots q) q.body

    -- The numbers pay for it, and for so many records, which the passes had in their heaps in the beginning. After a fault only what was
    -- written is paid for
    abbrev pub IsCountedApart : BulkParts S R → ℕ → Option ℕ → Type 0
    IsCountedApart q begun failed = IsCountedBeside q.sizes.workers q.sizes.block begun (failed ≡ None) q.counts (apart_account q)

    -- What no call of a front changes: no heap is there, the seats have drawn and taken nothing, and miss a share for each pass
    pub record IsHome (width : ℕ) (n : Numbers) (heaps : Vec (Contents R) Global) (tree : Leaves R) (row_seat : RowKnown (DeviceBlock S R)) (pool_seat : PoolKnown (PoolBuf R)) (slots : Vec S Global) (brought : Vec (Brought S R) Global) (peak : ℕ) : Type 0 where
      pub range : AreInRange n
      pub budget : fixed_of n ≤ n.memory
      pub no_heap : heaps.items ≡ []
      pub heaps_room : n.workers ≤ vec_capacity heaps
      pub heaps_leaves : length tree.items ≡ n.workers
      pub row_shares : row_seat.hand.shares + n.workers ≡ all_shares
      pub undrawn : row_seat.hand.places ≡ []
      pub bytes : All (HasSlot shown (n.block * width)) row_seat.hand.items
      pub pool_shares : pool_seat.hand.shares + n.workers ≡ all_shares
      pub untaken : pool_seat.hand.numbers ≡ []
      pub shape : 0 < pool_count pool_seat.pool → pool_seat.hand.shape ≡ n.block
      pub pooled : pool_count pool_seat.pool ≤ pool_of n
      pub no_slot : slots.items ≡ []
      pub slots_room : n.blocks ≤ vec_capacity slots
      pub none_brought : brought.items ≡ []
      pub brought_room : n.workers ≤ vec_capacity brought
      pub most : peak ≤ n.memory + n.block * n.blocks + 1

    -- What holds always: with what is out all slots and all buffers are there, and no slot was read more often than written
    pub record IsOut (width : ℕ) (q : BulkParts S R) : Type 0 where
      pub home : IsHome width q.sizes q.heaps q.tree q.row_seat q.pool_seat q.slots q.brought q.peak
      pub room : q.extract.room ≡ batch_of q.sizes
      pub in_extract : length q.extract.items ≤ batch_of q.sizes
      pub no_job : q.body.lanes.jobs.items ≡ []
      pub held : (held_by shown q.body).buffers + 2 * q.sizes.workers + pool_count q.pool_seat.pool ≡ lane_buffers q.sizes + q.supply.buffer_room
      pub pool : q.supply.sure_buffers + q.supply.buffer_room ≡ pool_of q.sizes
      pub slots : length (apart_slots q) ≡ q.sizes.blocks
      pub overreads : all_overreads (apart_slots q) ≡ 0
      pub slot_room : length q.supply.kept + q.supply.slot_room ≡ q.sizes.blocks
      pub block : q.supply.block ≡ q.sizes.block
      pub no_row : q.supply.drawn ≡ []
      pub workers : q.sources.bench.workers ≡ q.sizes.workers
      pub serves : ServesFor (pool_of q.sizes + 65) q.sources

    -- Besides, there is room for the buffers that come back from the pool; and a call of the slot that is kept as failed did fail
    pub record IsApart (width : ℕ) (q : BulkParts S R) (failed : Option ℕ) : Type 0 where
      pub out : IsOut width q
      pub fits : pool_count q.pool_seat.pool ≤ q.supply.buffer_room
      pub most_count : q.count ≤ q.sizes.memory + q.sizes.block * q.sizes.blocks
      pub fault : (number : ℕ) → failed ≡ Some number → HasFailed number (apart_slots q)

    module _ (cmp : R → R → Ordering) (record_of : List ℕ → R) (width : ℕ) where
      -- What holds while no call of a slot has failed, with passes that began with so many records, and so many popped: the runs rest, and
      -- where slots tell, they ascend; the extract buffer ascends then, and no record of it is after one of a run
      pub record IsSoundApart (q : BulkParts S R) (begun popped : ℕ) : Type 0 where
        pub idle : All (HasBlock q.sizes.block) q.body.lanes.idle
        pub internal : All (IsRestingRun q.sizes.block) q.body.runs.internal.items
        pub external : All (IsRestingArray shown width q.sizes.block) q.body.runs.external.items
        pub batch : length q.body.lanes.batch.items ≡ batch_of q.sizes
        pub buffers : length q.body.lanes.idle + 2 * q.sizes.workers + external_buffers q.body.runs.external.items ≡ lane_buffers q.sizes
        pub bounded : external_buffers q.body.runs.external.items ≤ fronts_in q.body.runs.external.items + q.sizes.workers
        pub fronts : fronts_in q.body.runs.external.items ≤ 64
        pub few : odd_in q.sizes.block q.body.runs.external.items ≤ 65
        pub internal_room : pool_of q.sizes < vec_capacity q.body.runs.internal
        pub external_room : q.sizes.blocks + 66 ≤ vec_capacity q.body.runs.external
        pub leaves : pool_of q.sizes < length q.body.tree.items
        pub rise : AllTell (apart_slots q) → AllRise shown cmp record_of width q.body
        pub counted : q.count ≡ begun + in_runs q
        pub above : 0 < in_runs q → IsAbove q.sizes q.peak q.limited
        pub ascends : AllTell (apart_slots q) → Ascends cmp q.extract.items
        pub order : AllTell (apart_slots q) → NoneAfter cmp q.extract.items (runs_bag shown record_of width q.body)
        -- the slots that are not in the row were those of runs, which were packed
        pub packed : (q.sizes.blocks - length q.row_seat.hand.items) * q.sizes.block ≤ in_runs q + popped + 65 * q.sizes.block
        -- and so were the buffers that are neither in the pool nor with the passes
        pub fit : in_runs q + popped + (length q.row_seat.hand.items + pool_count q.pool_seat.pool + 2 * q.sizes.workers) * q.sizes.block ≤ (q.sizes.blocks + lane_buffers q.sizes + pool_of q.sizes) * q.sizes.block

    -- where slots tell, no record of the extract buffer is after one of the pass, unless that met a fault
    abbrev pub GoesBefore : (R → R → Ordering) → BulkParts S R → PassHolding S R → Type 0
    GoesBefore cmp q pass = AllTell (apart_slots q) → pass.failed ≡ None → NoneAfter cmp q.extract.items pass.bag

    -- these are all passes of a session that left the parts
    pub record CanBring (width : ℕ) (shared : Shared S R) (q : BulkParts S R) (failed : Option ℕ) (passes : List (PassHolding S R)) : Type 0 where
      pub apart : IsApart width q failed
      pub count : length passes ≡ q.sizes.workers
      pub of : All (λ (p : PassHolding S R). p.key ≡ apart_key q p.key.begun) passes
      pub row : q.row_seat.row ≡ shared.row
      pub pool : q.pool_seat.pool ≡ shared.pool

    module _ (cmp : R → R → Ordering) (record_of : List ℕ → R) (width : ℕ) (shared : Shared S R) (q : BulkParts S R) (popped : ℕ) (failed : Option ℕ) (passes : List (PassHolding S R)) where
      -- the passes of a session can come back to the parts that it left, and what holds of these unless a call of their slots failed
      pub record CanEnd : Type 0 where
        pub back : CanBring width shared q failed passes
        pub sound : failed ≡ None → IsSoundApart cmp record_of width q (sum_by (λ p. p.key.begun) passes) popped
        pub before : failed ≡ None → All (GoesBefore cmp q) passes
        pub paid : IsCountedApart q (sum_by (λ p. p.key.begun) passes) failed

      -- and they came, the last first
      pub record IsJoined (joined : BulkParts S R) : Type 0 where
        pub can : CanEnd
        pub came : BroughtAll shown record_of width q.sizes cmp (reverse passes) q joined
