-- What each kind of step does to the history that counter and views show.
use Rattle.std.specs.Prelude.{◌≡◌, ℕ, ◌+◌, ◌<◌, ◌≤◌, min, true, List, [], ◌∷◌, ◌++◌, length, slice_set}
use mathlib.Core.Option.{some}
use lib.ListN.{get_elem?}
use Rattle.atomic_table.specs.Table.{State, Me, Act, stepped}
use Rattle.ppq_table.specs.declared.place.Place.{Place}
use Rattle.ppq_core.specs.declared.event.Event.{Event}
use Rattle.ppq_core.specs.declared.event.Event.TheVariants.{Draw}
use Rattle.ppq_core.specs.History.{draws}
use Rattle.ppq_row.specs.declared.hand.Hand.{Hand}
use Rattle.ppq_row.specs.Hands.{less_one, newcomer, with_place, with_none}
use Rattle.ppq_row.specs.Histories.{draws_of, IsShown}
use Rattle.ppq_row.specs.Rule.{counter, NoneVoid, RowRule}

-- the history that a state shows
abbrev pub shown : {T R : Type 0} → List T → State (Place T) (Hand T) → List (Event R)
shown items s = draws_of (min (counter s) (length items)) s.views

module _ (T R : Type 0) where
  -- the state after a fetch-add of the counter by the seat id, whose view becomes w
  abbrev pub counted : State (Place T) (Hand T) → ℕ → Me (Place T) (Hand T) → Hand T → Act (Place T) → State (Place T) (Hand T)
  counted s id me w act = stepped s 0 (counter s + 1) id me.1 w act

  -- a draw that finds an item is one Draw by its seat, one that finds the end is no event, and nor is a split. Every state that meets the rule shows a legal history
  pub record StepsAreEvents : Type 0 where
    pub legal : (items : List T) (s : State (Place T) (Hand T)) → RowRule items s → IsShown R (length items) (counter s) s.views
    pub draws : (items : List T) (s : State (Place T) (Hand T)) (id : ℕ) (me : Me (Place T) (Hand T)) (act : Act (Place T)) → RowRule items s → get_elem? s.views id ≡ some me.0 → counter s < length items
        → shown {R = R} items (counted s id me (with_place (counter s) me.0) act) ≡ Draw id (counter s) ∷ shown items s
    pub ends : (items : List T) (s : State (Place T) (Hand T)) (id : ℕ) (me : Me (Place T) (Hand T)) (act : Act (Place T)) → RowRule items s → get_elem? s.views id ≡ some me.0 → length items ≤ counter s
        → shown {R = R} items (counted s id me (with_none me.0) act) ≡ shown items s
    pub splits : (items : List T) (s : State (Place T) (Hand T)) (id : ℕ) (v : Hand T) → RowRule items s → get_elem? s.views id ≡ some v
        → shown {R = R} items record { words = s.words; homes = s.homes; views = slice_set s.views id (less_one v) ++ newcomer v ∷ [] } ≡ shown items s

-- who noted the end is right: every item was drawn, so the history has a draw of each
abbrev pub NotesAreTrue : Type 0 → Type 0 → Type 0
NotesAreTrue T R = (items : List T) (s : State (Place T) (Hand T)) (j : ℕ) (v : Hand T) → RowRule items s → get_elem? s.views j ≡ some v → v.noted ≡ true
    → (length items ≤ counter s) × (draws (shown {R = R} items s) ≡ length items)

-- where no seat that has shares counts a join, no view is void: who drew a place is the pass that drew it in the history, for good
abbrev pub JoinsAreCounted : Type 0 → Type 0
JoinsAreCounted T = (items : List T) (s : State (Place T) (Hand T)) → RowRule items s
    → ((j : ℕ) (v : Hand T) → get_elem? s.views j ≡ some v → 0 < v.shares → v.joins ≡ 0) → NoneVoid s.views
