-- What runs hold.
use Rattle.std.specs.Prelude.{ℕ, ◌≤◌, List, length, flat_map, sum_by, All}
use Rattle.ppq_outside.specs.Shown.{Shown}
use Rattle.ppq_array.specs.Run.{Run, items_of, buffers_of}
use Rattle.ppq_array.specs.External.{External}
use Rattle.ppq_array.specs.Owner.{slots_shown, HasSlot, HasBlock}
use Rattle.ppq_array.specs.Supply.{Stock}

module _ {R : Type 0} where
  -- the records of runs in buffers
  abbrev pub internal_items : List (Run R) → List R
  internal_items runs = flat_map items_of runs

  -- how many buffers they have
  abbrev pub internal_buffers : List (Run R) → ℕ
  internal_buffers runs = sum_by (λ run. length (buffers_of run)) runs

  -- all buffers of a run can hold so many records
  abbrev pub RunHasBlock : ℕ → Run R → Type 0
  RunHasBlock block run = All (HasBlock block) (buffers_of run)

module _ {S R : Type 0} where
  -- the slots of the blocks of runs
  abbrev pub external_slots : (S → Shown) → List (External S R) → List Shown
  external_slots shown arrays = flat_map (λ a. slots_shown shown a.stored) arrays

  -- how many buffers they have
  abbrev pub external_buffers : List (External S R) → ℕ
  external_buffers arrays = sum_by (λ a. length (buffers_of a.loaded)) arrays

  -- so do the slots of all stored blocks of a run, each read no more often than written
  abbrev pub HasSlots : (S → Shown) → ℕ → External S R → Type 0
  HasSlots shown bytes a = All (HasSlot shown bytes) a.stored

  -- a supply can take back every slot of these runs, and every buffer of those in buffers
  pub record CanTakeBack (shown : S → Shown) (stock : Stock) (internal : List (Run R)) (external : List (External S R)) : Type 0 where
    pub slots : length (external_slots shown external) ≤ stock.slot_room
    pub buffers : internal_buffers internal ≤ stock.buffer_room
