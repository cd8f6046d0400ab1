-- What contracts see of a pass.
use Rattle.std.specs.Prelude.{◌≡◌, ℕ, ◌+◌, ◌-◌, ◌*◌, ◌<◌, ◌≤◌, Bool, true, false, cond, nat_lt, min, List, [], ◌∷◌, ◌++◌, length, flat_map, All, Option, Some, None, Result, OnOk, OnErr}
use Rattle.atomic_table.specs.Seated.{TableId}
use Rattle.ppq_pool.specs.ppq_table.Sums.{times}
use Rattle.ppq_pool.specs.ppq_record.Bag.{IsSameBag}
use Rattle.ppq_extract.specs.ppq_outside.Shown.{Shown, AllTell}
use Rattle.ppq_extract.specs.ppq_budget.Sizes.{Numbers, numbers, AreInRange, heap_of, pool_of}
use Rattle.ppq_heap.specs.Heap.{Contents}
use Rattle.ppq_extract.specs.ppq_array.declared.berth.DeviceBlock.{DeviceBlock}
use Rattle.ppq_extract.specs.ppq_array.External.{records_in}
use Rattle.ppq_extract.specs.ppq_array.Kept.{SameSlots, HasFailed, AreQuiet}
use Rattle.ppq_extract.specs.ppq_array.Owner.{slots_shown}
use Rattle.ppq_extract.specs.ppq_array.Holdings.{internal_items}
use Rattle.ppq_extract.specs.ppq_fetch.Fetching.{count_in}
use Rattle.ppq_spill.specs.ppq_counts.Tally.{Tally, tally, last, IsBacked}
use Rattle.ppq_spill.specs.Body.{body_slots, held_by}
use Rattle.ppq_spill.specs.Storing.{in_buffers}
use Rattle.ppq_spill.specs.declared.body.PassBody.{PassBody}
use Rattle.ppq_row.specs.Known.{Known as RowKnown}
use Rattle.ppq_pool.specs.Known.{Known as PoolKnown}
use Rattle.ppq_pool.specs.Seats.{count_of}
use Rattle.ppq_extract.specs.ppq_array.declared.store_fault.StoreFault.{StoreFault}
use Rattle.ppq_extract.specs.ppq_array.declared.store_fault.StoreFault.TheVariants.{NoFreeBlock, Device}
use Rattle.ppq_pass.specs.declared.shared.Shared.{Shared}
use Rattle.ppq_pass.specs.declared.shared.PoolBuf.{PoolBuf}
use Rattle.ppq_pass.specs.declared.parts.PassParts.{PassParts}
use Rattle.ppq_pass.specs.Passing.{items_at, steps_of}

-- What no call of a pass changes: the row and the pool of its session, the slots as they were put into the row, its shares of both, the
-- sizes, and how many records it had in the beginning
pub record PassKey (S R : Type 0) : Type 0 where
  pub row : TableId
  pub pool : TableId
  pub items : List (DeviceBlock S R)
  pub row_shares : ℕ
  pub pool_shares : ℕ
  pub sizes : Numbers
  pub begun : ℕ

-- Its key. The multiset of its records, in its heap and in its runs, as far as its slots tell; how many they are, how many of them are in the
-- heap, and how many in runs in buffers. All slots that it holds, in its runs and its stash, and how many the stash has; all that it drew,
-- as they were put into the row. How many buffers of a block it holds, in its runs and two that are idle, and the numbers that its seat of
-- the pool holds. Whether it knows that the row is drawn to its end, and how many steps it took at what is shared. How many of its pushes
-- answered Ok, whether one answered NoFreeBlock, and the number of the slot a call of which failed first, if any. How many stores of its full
-- heap it began, whatever came of them; that number saturates
pub record PassHolding (S R : Type 0) : Type 0 where
  pub key : PassKey S R
  pub bag : List R
  pub size : ℕ
  pub in_heap : ℕ
  pub in_buffers : ℕ
  pub slots : List Shown
  pub stash : ℕ
  pub drawn : List Shown
  pub buffers : ℕ
  pub numbers : List ℕ
  pub noted : Bool
  pub steps : ℕ
  pub accepted : ℕ
  pub refused : Bool
  pub failed : Option ℕ
  pub stores : ℕ

module _ {S R : Type 0} where
  -- the pass is of the session that shares these
  pub record IsOf (shared : Shared S R) (pass : PassHolding S R) : Type 0 where
    pub row : pass.key.row ≡ shared.row
    pub pool : pass.key.pool ≡ shared.pool

  -- all slots that a pass holds, and all that it can still draw
  abbrev pub reach_of : (S → Shown) → PassHolding S R → List Shown
  reach_of shown pass = pass.slots ++ slots_shown shown pass.key.items

  -- they all tell
  abbrev pub PassTells : (S → Shown) → PassHolding S R → Type 0
  PassTells shown pass = AllTell (reach_of shown pass)

  -- The pass with one record more, and with these records. Nothing else changes, so no step was taken at what is shared
  abbrev pub with_one : PassHolding S R → List R → PassHolding S R
  with_one old bag = record old { bag = bag; size = old.size + 1; in_heap = old.in_heap + 1; accepted = old.accepted + 1 }

  -- A store found too few slots: the row is drawn to its end, and the stash has fewer than the records of the heap and of the runs in
  -- buffers want. The slots that it drew stay with it, and no record went. It gave back each buffer that it took. Its steps at what is shared are
  -- counted, and so is the store
  pub record FoundNone (old new : PassHolding S R) : Type 0 where
    pub bag : IsSameBag new.bag old.bag
    pub noted : new.noted ≡ true
    pub few : new.stash * old.key.sizes.block < heap_of old.key.sizes + old.in_buffers
    pub rest : new ≡ record old { bag = new.bag; slots = new.slots; stash = new.stash; drawn = new.drawn; numbers = new.numbers; noted = true; steps = new.steps; refused = true; stores = new.stores }

  -- The slots that it holds are those that it held and those that it drew since, each once; no count of a slot fell. Nor did that of its
  -- steps at what is shared
  pub record KeptSlots (old new : PassHolding S R) : Type 0 where
    pub more : List Shown
    pub drawn : new.drawn ≡ old.drawn ++ more
    pub slots : SameSlots (old.slots ++ more) new.slots
    pub steps : old.steps ≤ new.steps

  -- a call of the slot with this number failed, now or before, which the pass keeps; it counts what it counted, and its heap has as many records
  pub record MetFault (number : ℕ) (old new : PassHolding S R) : Type 0 where
    pub kept : new.failed ≡ Some number
    pub fault : HasFailed number new.slots
    pub accepted : new.accepted ≡ old.accepted
    pub refused : new.refused ≡ old.refused
    pub in_heap : new.in_heap ≡ old.in_heap

  -- why a push was refused, and what it left
  abbrev pub IsRefusedPush : PassHolding S R → PassHolding S R → StoreFault → Type 0
  IsRefusedPush old new NoFreeBlock = FoundNone old new
  IsRefusedPush old new (Device number) = MetFault number old new

  -- A push that stored the heap first: the record is in the pass, alone in its heap, and neither a refusal nor a fault was kept
  pub record PutAfterStore (shown : S → Shown) (r : R) (old new : PassHolding S R) : Type 0 where
    pub added : PassTells shown old → IsSameBag new.bag (r ∷ old.bag)
    pub size : new.size ≡ old.size + 1
    pub accepted : new.accepted ≡ old.accepted + 1
    pub same : new.refused ≡ old.refused
    pub sound : new.failed ≡ None
    pub stored : new.in_heap ≡ 1

  -- Whatever a push that stores the heap first answers: slots go on telling, the pass has those that it had and those that it drew, its key
  -- stays, and one store more was begun
  pub record PushKeeps (shown : S → Shown) (old new : PassHolding S R) : Type 0 where
    pub tells : PassTells shown old → PassTells shown new
    pub kept : KeptSlots old new
    pub key : new.key ≡ old.key
    pub stores : new.stores ≡ min (old.stores + 1) last

  -- what it counts, as the numbers of a queue: it begins no session
  abbrev pub tally_of : PassHolding S R → Tally
  tally_of pass = tally pass.accepted pass.stores 0

  -- it began stores with records that it accepted or had in the beginning alone: those of all its stores, and those in its heap, are no more
  abbrev pub IsBackedPass : PassHolding S R → Type 0
  IsBackedPass pass = IsBacked (heap_of pass.key.sizes) pass.key.begun pass.in_heap (tally_of pass)

  -- the same without the records of a full heap, where the last store was not made
  abbrev pub IsBackedPassWithout : PassHolding S R → Type 0
  IsBackedPassWithout pass = IsBacked (heap_of pass.key.sizes) pass.key.begun (pass.in_heap - heap_of pass.key.sizes) (tally_of pass)

  -- What a push with this answer counts: where no fault was met before and the heap is full, one store more was begun. Its stores were begun
  -- with records that it accepted or had in the beginning alone; after a push that was refused they are without those of the full heap
  pub record CountsPassPush {T E : Type 0} (old new : PassHolding S R) (result : Result T E) : Type 0 where
    pub stores : old.failed ≡ None → new.stores ≡ cond (nat_lt old.in_heap (heap_of old.key.sizes)) old.stores (min (old.stores + 1) last)
    pub backed : OnOk result (IsBackedPass old → IsBackedPass new)
    pub unbacked : OnErr result (IsBackedPass old → IsBackedPassWithout new)

  -- What always holds of a pass: its sizes are in range, and its heap is within them. The slots that it holds are those that it drew. It
  -- holds the buffers whose numbers its seat of the pool holds, and two more. The numbers are of buffers of the pool, each once, and the pool
  -- has no more than the budget. Unless a fault was met, no call of a slot failed since the pass drew it, and its records are those that it
  -- had in the beginning and those that it accepted; after a refusal it knows the end of the row, and has as many records as a heap holds. A
  -- call of the slot that is kept as failed did fail, and the heap is full then
  pub record IsKnown (pass : PassHolding S R) : Type 0 where
    pub range : AreInRange pass.key.sizes
    pub in_heap : pass.in_heap ≤ heap_of pass.key.sizes
    pub slots : SameSlots pass.drawn pass.slots
    pub buffers : pass.buffers ≡ length pass.numbers + 2
    pub numbers : All (λ i. i < count_of pass.key.pool) pass.numbers
    pub each_once : (i : ℕ) → times i pass.numbers ≤ 1
    pub pool : count_of pass.key.pool ≤ pool_of pass.key.sizes
    pub quiet : pass.failed ≡ None → AreQuiet pass.drawn pass.slots
    pub counted : pass.failed ≡ None → pass.size ≡ pass.key.begun + pass.accepted
    pub noted : pass.refused ≡ true → pass.noted ≡ true
    pub full : pass.refused ≡ true → pass.failed ≡ None → heap_of pass.key.sizes ≤ pass.size
    pub fault : (number : ℕ) → pass.failed ≡ Some number → HasFailed number pass.slots × (pass.in_heap ≡ heap_of pass.key.sizes)

  -- the key of a pass with these parts
  abbrev pub key_of : Numbers → ℕ → RowKnown (DeviceBlock S R) → PoolKnown (PoolBuf R) → PassKey S R
  key_of sizes begun row pool =
      record {
        row = row.row;
        pool = pool.pool;
        items = row.hand.items;
        row_shares = row.hand.shares;
        pool_shares = pool.hand.shares;
        sizes = sizes;
        begun = begun;
      }

  -- a pass with these records that has drawn and taken nothing yet
  abbrev pub new_holding : Numbers → List R → RowKnown (DeviceBlock S R) → PoolKnown (PoolBuf R) → PassHolding S R
  new_holding sizes items row pool =
      record {
        key = key_of sizes (length items) row pool;
        bag = items;
        size = length items;
        in_heap = length items;
        in_buffers = 0;
        slots = [];
        stash = 0;
        drawn = [];
        buffers = 2;
        numbers = [];
        noted = row.hand.noted;
        steps = steps_of row pool;
        accepted = 0;
        refused = false;
        failed = None;
        stores = 0;
      }

  module _ (shown : S → Shown) where
    -- the slots of the runs and of the stash
    abbrev pub slots_of : PassBody S R → PassParts S R → List Shown
    slots_of body parts = body_slots shown body ++ slots_shown shown parts.stash

    -- the records of runs, as far as slots tell
    abbrev pub runs_bag : (List ℕ → R) → ℕ → PassBody S R → List R
    runs_bag record_of width body = internal_items body.runs.internal.items ++ flat_map (records_in record_of width shown) body.runs.external.items

    -- what a pass with these parts shows
    abbrev pub holding_of : (List ℕ → R) → ℕ → Numbers → Contents R → PassBody S R → PassParts S R → ℕ → ℕ → Bool → Option ℕ → ℕ → PassHolding S R
    holding_of record_of width sizes heap body parts begun accepted refused failed stores =
        record {
          key = key_of sizes begun parts.row_seat parts.pool_seat;
          bag = heap.items ++ runs_bag record_of width body;
          size = length heap.items + count_in body.runs.internal.items body.runs.external.items;
          in_heap = length heap.items;
          in_buffers = in_buffers body;
          slots = slots_of body parts;
          stash = length parts.stash;
          drawn = slots_shown shown (items_at parts.row_seat.hand.items parts.row_seat.hand.places);
          buffers = (held_by shown body).buffers;
          numbers = parts.pool_seat.hand.numbers;
          noted = parts.row_seat.hand.noted;
          steps = steps_of parts.row_seat parts.pool_seat;
          accepted = accepted;
          refused = refused;
          failed = failed;
          stores = stores;
        }

    -- the same; nothing where the parts are away, as within a call
    abbrev pub shown_holding : (List ℕ → R) → ℕ → Numbers → Contents R → PassBody S R → Option (PassParts S R) → ℕ → ℕ → Bool → Option ℕ → ℕ → PassHolding S R
    shown_holding record_of width sizes heap body (Some parts) begun accepted refused failed stores = holding_of record_of width sizes heap body parts begun accepted refused failed stores
    shown_holding record_of width sizes heap body None begun accepted refused failed stores =
        record {
          key = record {
            row = no_table;
            pool = no_table;
            items = [];
            row_shares = 0;
            pool_shares = 0;
            sizes = numbers 0 0 0 0 0;
            begun = 0;
          };
          bag = [];
          size = 0;
          in_heap = 0;
          in_buffers = 0;
          slots = [];
          stash = 0;
          drawn = [];
          buffers = 0;
          numbers = [];
          noted = false;
          steps = 0;
          accepted = 0;
          refused = false;
          failed = None;
          stores = 0;
        }
      where
        no_table : TableId
        no_table = record { words = 0; slots = 0; views_name = 0; atom = 0; block = 0; offset = 0; slot_names = [] }
