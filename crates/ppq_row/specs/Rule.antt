-- The rule of a row, and what a step on its counter tells.
-- The one word is the counter of draws. The last slot keeps an empty list with room for all items.
use Rattle.std.specs.Prelude.{◌≡◌, ℕ, ◌+◌, ◌^◌, ◌<◌, ◌≤◌, true, List, ◌∷◌, All, length, min, slice_index, Vec}
use mathlib.Core.Option.{some}
use lib.ListN.{get_elem?}
use Rattle.std.specs.Global.{Global}
use Rattle.atomic_table.specs.Table.{State, Me, Step}
use Rattle.ppq_table.specs.declared.place.Place.{Place}
use Rattle.ppq_table.specs.declared.place.Place.TheVariants.{Item, Room}
use Rattle.ppq_table.specs.Places.{IsRoom}
use Rattle.ppq_table.specs.Sums.{all_shares, total, times, once_below}
use Rattle.ppq_row.specs.declared.hand.Hand.{Hand}
use Rattle.ppq_row.specs.Hands.{void_hand, one_if_void, open_shares, with_place, with_none}
use Rattle.ppq_row.specs.Histories.{IsShown}

module _ {T : Type 0} where
  -- the counter of draws
  abbrev pub counter : State (Place T) (Hand T) → ℕ
  counter s = slice_index s.words 0

  -- what the rule says of one view, with the counter at c
  pub record Fits (items : List T) (c : ℕ) (v : Hand T) : Type 0 where
    -- a view with shares carries the items as they were put in; one with none is void
    pub same_items : 0 < v.shares → v.items ≡ items
    pub void_bare : v.shares ≡ 0 → v ≡ void_hand
    -- a noted end was reached
    pub all_drawn : v.noted ≡ true → length items ≤ c
    pub behind : All (λ p. p < c) v.places

  pub record RowRule (items : List T) (s : State (Place T) (Hand T)) : Type 0 where
    pub one_word : length s.words ≡ 1
    pub wide : length s.homes ≡ length items + 1
    pub short : length items < all_shares
    -- each item that is not drawn is at home, and so is the room
    pub rest_home : (i : ℕ) (x : T) → counter s ≤ i → get_elem? items i ≡ some x → get_elem? s.homes i ≡ some (some (Item x))
    pub room_home : (room : Vec T Global) × (get_elem? s.homes (length items) ≡ some (some (Room room))) × IsRoom (length items) room
    -- no share is made or lost
    pub shares_add : total (λ v. v.shares) s.views ≡ all_shares
    -- each void view is counted as a join by one that is not, so no step makes a view void unseen
    pub joins_add : total (λ v. v.joins) s.views ≡ total one_if_void s.views
    -- each place below both the counter and the count of items is listed once, and no other place
    pub each_once : (x : ℕ) → total (λ v. times x v.places) s.views ≡ once_below x (min (counter s) (length items))
    -- so the counter cannot wrap: past the items it counts Nones, of which each share has at most one
    pub within : counter s ≤ length items + total (λ v. v.nones) s.views
    pub budget : total (λ v. v.nones) s.views + total open_shares s.views ≤ all_shares
    -- counter and views show a legal history of draws
    pub shown : IsShown T (length items) (counter s) s.views
    pub each_view : (j : ℕ) (v : Hand T) → get_elem? s.views j ≡ some v → Fits items (counter s) v

  -- the place i was found with the item x
  abbrev pub Found : Hand T → ℕ → T → Hand T → Type 0
  Found v i x w = (get_elem? v.items i ≡ some x) × (w ≡ with_place i v) × All (λ p. p < i) v.places

  -- a step on the counter that found n: an item, which is taken, or the end
  abbrev pub draw_tells : Step (Place T) → Me (Place T) (Hand T) → ℕ → Me (Place T) (Hand T) → Type 0
  draw_tells st m n m' =
      (st.slots ≡ length m.0.items + 1)
      × (n < length m.0.items → (x : T) × Found m.0 n x m'.0 × (m'.1 ≡ (n, Item x) ∷ m.1))
      × (length m.0.items ≤ n → (m'.0 ≡ with_none m.0) × (m'.1 ≡ m.1))

-- no view is void: no seats were joined, and each has the view that it began with
abbrev pub NoneVoid : {T : Type 0} → List (Hand T) → Type 0
NoneVoid {T} views = (j : ℕ) (v : Hand T) → get_elem? views j ≡ some v → 0 < v.shares

-- in each state that meets the rule the counter is far below its end
abbrev pub NeverWraps : Type 0 → Type 0
NeverWraps T = (items : List T) (s : State (Place T) (Hand T)) → RowRule items s → counter s < 2 ^ 33
