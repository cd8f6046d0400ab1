-- What holds of a front between its calls.
use Rattle.std.specs.Prelude.{◌≡◌, ◌⊎◌, ℕ, ◌+◌, ◌-◌, ◌*◌, ◌≤◌, true, List, [], ◌++◌, length, replicate, Option, Some, None}
use Rattle.std.specs.declared.cmp.Ordering.{Ordering}
use Rattle.ppq_pass.specs.ppq_record.Order.{Ascends}
use Rattle.ppq_pass.specs.ppq_record.Bag.{IsSameBag}
use Rattle.ppq_pass.specs.ppq_array.declared.store_fault.StoreFault.{StoreFault as QueueFault}
use Rattle.ppq_pass.specs.ppq_array.declared.store_fault.StoreFault.TheVariants.{NoFreeBlock, Device}
use Rattle.ppq_pass.specs.ppq_outside.Shown.{Shown, AllTell}
use Rattle.ppq_pass.specs.ppq_budget.Sizes.{Numbers, pool_of, lane_buffers}
use Rattle.ppq_pass.specs.ppq_block.Block.{Block, holding}
use Rattle.ppq_pass.specs.ppq_array.declared.berth.DeviceBlock.{DeviceBlock}
use Rattle.ppq_pass.specs.ppq_array.Supply.{Stock}
use Rattle.ppq_pass.specs.ppq_array.Kept.{HasFailed, AreQuiet}
use Rattle.ppq_pass.specs.ppq_array.Owner.{slots_shown}
use Rattle.ppq_pass.specs.ppq_array.Holdings.{internal_buffers}
use Rattle.ppq_pass.specs.ppq_fetch.Taking.{NoneAfter, AllBelow, NoneBelow}
use Rattle.ppq_pass.specs.ppq_pool.Seats.{count_of as pool_count}
use Rattle.ppq_pass.specs.ppq_spill.Body.{held_by}
use Rattle.ppq_pass.specs.ppq_spill.declared.body.PassBody.{PassBody}
use Rattle.ppq_queue.specs.Resting.{AtRest, BodyKept, runs_bag, count_of}
use Rattle.ppq_session.specs.declared.parts.BulkParts.{BulkParts}
use Rattle.ppq_session.specs.Apart.{IsOut, IsApart, IsCountedApart, apart_slots}
use Rattle.ppq_session.specs.Emptied.{emptied}
use Rattle.ppq_session.specs.Fronts.{FrontHolding}

-- the idle buffers that the passes have, two each
abbrev pub lent : {R : Type 0} → Numbers → List (Block R)
lent n = replicate (2 * n.workers) (holding n.block [])

-- a refill that was refused met a fault of a slot
abbrev pub IsRefillRefusal : List Shown → QueueFault → Type 0
IsRefillRefusal slots NoFreeBlock = ⊥
IsRefillRefusal slots (Device number) = HasFailed number slots

module _ {S R : Type 0} where
  -- a body together with them
  abbrev pub with_lent : Numbers → PassBody S R → PassBody S R
  with_lent n body = record body { lanes = record body.lanes { idle = lent n ++ body.lanes.idle } }

  module _ (shown : S → Shown) where
    -- a supply together with the slots that were put into the row, and with so many buffers that were put into the pool
    abbrev pub with_shared : List (DeviceBlock S R) → ℕ → Stock → Stock
    with_shared items buffers s =
        record s {
          kept = slots_shown shown items ++ s.kept;
          slot_room = s.slot_room - length items;
          sure_buffers = s.sure_buffers + buffers;
          buffer_room = s.buffer_room - buffers;
        }

    -- the records of the extract buffer and of the runs
    abbrev pub front_bag : (List ℕ → R) → ℕ → BulkParts S R → List R
    front_bag record_of width q = q.extract.items ++ runs_bag shown record_of width q.body

    -- what a front of these parts shows
    abbrev pub front_holding : (List ℕ → R) → ℕ → BulkParts S R → R → ℕ → Option ℕ → FrontHolding S R
    front_holding record_of width q limit popped failed =
        record {
          bag = front_bag record_of width q;
          limit = limit;
          size = q.count;
          popped = popped;
          sizes = q.sizes;
          peak = q.peak;
          slots = apart_slots shown q;
          buffers = (held_by shown q.body).buffers + q.supply.sure_buffers;
          run_buffers = internal_buffers q.body.runs.internal.items;
          in_extract = length q.extract.items;
          row = q.row_seat.row;
          items = q.row_seat.hand.items;
          pool = q.pool_seat.pool;
          failed = failed;
          counts = q.counts;
        }

    -- In a limit session the counts fit, and a call of the slot that is kept as failed did fail. What no call changes: the blocks that were not put into the
    -- row had no more room than the records and 65 blocks, and all records fit into those blocks and the buffers that are not out. The numbers of
    -- the queue pay for what was written and is owed
    pub record IsTallied (q : BulkParts S R) (popped : ℕ) (failed : Option ℕ) : Type 0 where
      pub limited : q.limited ≡ true
      pub counted : q.count + popped ≤ q.peak
      pub most : q.count + popped ≤ q.sizes.memory + q.sizes.block * q.sizes.blocks
      pub packed : (q.sizes.blocks - length q.row_seat.hand.items) * q.sizes.block ≤ q.count + popped + 65 * q.sizes.block
      pub fits : q.count + popped + (length q.row_seat.hand.items + pool_count q.pool_seat.pool + 2 * q.sizes.workers) * q.sizes.block ≤ (q.sizes.blocks + lane_buffers q.sizes + pool_of q.sizes) * q.sizes.block
      pub fault : (number : ℕ) → failed ≡ Some number → HasFailed number (apart_slots shown q)
      pub paid : IsCountedApart shown q 0 failed

    -- parts can be given room for the buffers that come back from the pool: there is room, unless a call of a slot failed
    pub record CanMakeRoom (width : ℕ) (q : BulkParts S R) (popped : ℕ) (failed : Option ℕ) : Type 0 where
      pub out : IsOut shown width q
      pub tallied : IsTallied q popped failed
      pub room : failed ≡ None → pool_count q.pool_seat.pool ≤ q.supply.buffer_room

    -- they have it, by other idle buffers in the lanes at the most
    pub record HasMadeRoom (width : ℕ) (old : BulkParts S R) (failed : Option ℕ) (new : BulkParts S R) : Type 0 where
      pub apart : IsApart shown width new failed
      pub same : failed ≡ None → new ≡ old
      pub idle : List (Block R)
      pub is : (new ≡ old) ⊎ (new ≡ emptied idle old)

    -- What holds while no call of a slot has failed: with all that is out, the runs rest, and all records are counted. Where slots tell, the
    -- extract buffer ascends, no record of it is after one of a run, and each is below the limit
    pub record IsSoundFront (cmp : R → R → Ordering) (record_of : List ℕ → R) (width : ℕ) (q : BulkParts S R) (limit : R) : Type 0 where
      pub rest : AtRest shown cmp record_of width q.sizes (with_lent q.sizes q.body) (with_shared q.row_seat.hand.items (pool_count q.pool_seat.pool) q.supply)
      pub few : length q.body.runs.external.items ≤ 64
      pub counted : q.count ≡ length q.extract.items + count_of q.body
      pub ascends : AllTell (apart_slots shown q) → Ascends cmp q.extract.items
      pub order : AllTell (apart_slots shown q) → NoneAfter cmp q.extract.items (runs_bag shown record_of width q.body)
      pub under : AllTell (apart_slots shown q) → AllBelow cmp (Some limit) q.extract.items

    -- the extract buffer of a front is empty and can be refilled
    pub record CanRefill (cmp : R → R → Ordering) (record_of : List ℕ → R) (width : ℕ) (q : BulkParts S R) (limit : R) : Type 0 where
      pub out : IsOut shown width q
      pub sound : IsSoundFront cmp record_of width q limit
      pub empty : q.extract.items ≡ []

    -- It was: no record was lost, and no call of a slot failed. What stayed empty says that no record of a run is below the limit
    pub record FrontRefilled (cmp : R → R → Ordering) (record_of : List ℕ → R) (width : ℕ) (limit : R) (old new : BulkParts S R) : Type 0 where
      pub sound : IsSoundFront cmp record_of width new limit
      pub bag : AllTell (apart_slots shown old) → IsSameBag (front_bag record_of width new) (front_bag record_of width old)
      pub quiet : AreQuiet (apart_slots shown old) (apart_slots shown new)
      pub ready : new.extract.items ≡ [] → AllTell (apart_slots shown old) → NoneBelow cmp (Some limit) (runs_bag shown record_of width new.body)

    -- what stays, whatever it met
    pub record RefillStays (width : ℕ) (old new : BulkParts S R) : Type 0 where
      pub out : IsOut shown width new
      pub kept : BodyKept shown old.body new.body old.supply new.supply
      pub rest : new ≡ record old { extract = new.extract; body = new.body; supply = new.supply; sources = new.sources }

    -- what a front shows that was taken apart, and what held of it
    pub record IsTakenApart (cmp : R → R → Ordering) (record_of : List ℕ → R) (width : ℕ) (q : BulkParts S R) (popped : ℕ) (failed : Option ℕ) (front : FrontHolding S R) : Type 0 where
      pub out : IsOut shown width q
      pub tallied : IsTallied q popped failed
      pub sound : failed ≡ None → IsSoundFront cmp record_of width q front.limit
      pub shows : front_holding record_of width q front.limit popped failed ≡ front
