-- How items lie in their places, at the start and at the end.
use Rattle.std.specs.Prelude.{◌≡◌, ℕ, ◌+◌, ◌<◌, ◌≤◌, Bool, true, false, List, [], ◌∷◌, ◌++◌, map, length, slice_index_or, Vec, vec_capacity}
use mathlib.Core.Option.{some}
use lib.ListN.{get_elem?}
use Rattle.std.specs.Global.{Global}
use Rattle.ppq_table.specs.declared.place.Place.{Place}
use Rattle.ppq_table.specs.declared.place.Place.TheVariants.{Empty, Item, Room}

module _ {T : Type 0} where
  -- an empty list with room for n items
  abbrev pub IsRoom : ℕ → Vec T Global → Type 0
  IsRoom n room = (room.items ≡ []) × (n ≤ vec_capacity room)

  -- the items in order, and then an empty list with room for all of them
  abbrev pub IsLaid : List T → List (Place T) → Type 0
  IsLaid items places = (room : Vec T Global) × (places ≡ map Item items ++ Room room ∷ []) × IsRoom (length items) room

  -- n places for items, and then an empty list with room for n items
  abbrev pub HasRoom : ℕ → List (Place T) → Type 0
  HasRoom n places = (length places ≡ n + 1) × ((room : Vec T Global) × (get_elem? places n ≡ some (Room room)) × IsRoom n room)

  -- the items that lie in their places, in order
  abbrev pub items_in : List (Place T) → List T
  items_in [] = []
  items_in (Item x ∷ places) = x ∷ items_in places
  items_in (Empty ∷ places) = items_in places
  items_in (Room room ∷ places) = items_in places

-- of n + 1 slots those before i and the last are taken, and the others are not
abbrev pub Unread : List Bool → ℕ → ℕ → Type 0
Unread filled i n = ((k : ℕ) → i ≤ k → k < n → slice_index_or filled k false ≡ true) × ((k : ℕ) → k < i → slice_index_or filled k false ≡ false) × (slice_index_or filled n false ≡ false)
