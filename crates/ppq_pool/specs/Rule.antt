-- The rule of a pool, which holds between any two steps, and what each kind of step tells.
-- The word i + 1 and the slot i are those of the item i. The word 0 is spare: splits and joins read it. The last slot keeps an empty list with room for all items.
use Rattle.std.specs.Prelude.{◌≡◌, ◌≢◌, ◌⊎◌, ℕ, ◌+◌, ◌-◌, ◌<◌, ◌≤◌, List, [], ◌∷◌, All, Contains, length, slice_index, Vec, Some, None}
use mathlib.Core.Option.{Option, none, some}
use lib.ListN.{get_elem?}
use Rattle.std.specs.Global.{Global}
use Rattle.atomic_table.specs.Table.{State, Me, Step, rest}
use Rattle.ppq_table.specs.declared.place.Place.{Place}
use Rattle.ppq_table.specs.declared.place.Place.TheVariants.{Empty, Item, Room}
use Rattle.ppq_table.specs.Places.{IsRoom}
use Rattle.ppq_table.specs.Sums.{total, times, all_shares}
use Rattle.ppq_pool.specs.declared.hand.Hand.{Hand}
use Rattle.ppq_pool.specs.declared.hand.Move.{Move}
use Rattle.ppq_pool.specs.Histories.{ShowsHistory, ShowsLog, events_of}
use Rattle.ppq_pool.specs.Hands.{one_if_void, with_claim, with_look, with_place, with_give, last_moment}

module _ {T : Type 0} where
  -- how often the views list the item i, all together
  abbrev pub holders : ℕ → List (Hand T) → ℕ
  holders i views = total (λ v. times i v.numbers) views

  -- no two seats were joined
  abbrev pub NoneVoid : List (Hand T) → Type 0
  NoneVoid views = (j : ℕ) (v : Hand T) → get_elem? views j ≡ some v → 0 < v.shares

  -- A log of all that the seats did and found, in which each look found its item held. Until seats are joined its events are a legal history, which the words and the views show
  abbrev pub HasLog : ℕ → List ℕ → List (Hand T) → Type 0
  HasLog n words views = (log : List (ℕ × Move)) × ShowsLog T n words views log × (NoneVoid views → ShowsHistory {R = T} n words views (events_of log))

  -- some view put in the item x with the number i
  abbrev pub WasPut : ℕ → T → List (Hand T) → Type 0
  WasPut i x views = (j : ℕ) × (v : Hand T) × (get_elem? views j ≡ some v) × Contains v.put (i, x)

  -- what the rule says of one view. A view with no share is void
  pub record Fits (shape : ℕ) (homes : List (Option (Place T))) (v : Hand T) : Type 0 where
    -- it knows the pool's shape
    pub same_shape : 0 < v.shares → v.shape ≡ shape
    pub void_nothing : v.shares ≡ 0 → (v.numbers ≡ []) × (v.put ≡ []) × (v.joins ≡ 0)
    pub in_range : All (λ i. i + 1 < length homes) v.numbers
    -- the place of an item that it lists is at home, and empty, or it has it in hand
    pub places_home : (i : ℕ) → 0 < times i v.numbers → ¬ (v.in_hand ≡ Some i) → get_elem? homes i ≡ some (some Empty)
    pub place_out : (i : ℕ) → v.in_hand ≡ Some i → (0 < times i v.numbers) × (get_elem? homes i ≡ some none)

  module _ (shape_of : T → ℕ) (shape : ℕ) where
    -- the word is 0: nobody lists the item, which is at home and has the pool's shape
    abbrev pub IsFree : ℕ → ℕ → Option (Option (Place T)) → Type 0
    IsFree word holding home = (word ≡ 0) × (holding ≡ 0) × ((x : T) × (home ≡ some (some (Item x))) × (shape_of x ≡ shape))

    -- the word is 1: just one view lists the item, once
    abbrev pub IsHeld : ℕ → ℕ → Type 0
    IsHeld word holding = (word ≡ 1) × (holding ≡ 1)

    pub record PoolRule (s : State (Place T) (Hand T)) : Type 0 where
      pub wide : length s.words ≡ length s.homes
      pub some_slot : 0 < length s.homes
      pub short : length s.homes ≤ 4294967296
      -- the emptied list lies in the last slot, with room for all items
      pub room_home : (room : Vec T Global) × (get_elem? s.homes (length s.homes - 1) ≡ some (some (Room room))) × IsRoom (length s.homes - 1) room
      -- no share is made or lost, so a seat with all of them is the only one
      pub shares_add : total (λ v. v.shares) s.views ≡ all_shares
      -- each void view is counted as a join by one that is not, so no step makes a view void unseen
      pub joins_add : total (λ v. v.joins) s.views ≡ total one_if_void s.views
      -- each item is free, or just one view lists it
      pub each_item : (i : ℕ) → i + 1 < length s.homes → IsFree (slice_index s.words (i + 1)) (holders i s.views) (get_elem? s.homes i) ⊎ IsHeld (slice_index s.words (i + 1)) (holders i s.views)
      pub each_view : (j : ℕ) (v : Hand T) → get_elem? s.views j ≡ some v → Fits shape s.homes v
      -- an item at home was put in with its number, by some seat
      pub each_put : (i : ℕ) (x : T) → get_elem? s.homes i ≡ some (some (Item x)) → WasPut i x s.views
      -- every step of every seat is logged, and no look is noted that did not find its item held
      pub logged : HasLog (length s.homes - 1) s.words s.views

  -- what an exchange of the word of the item i for 1 tells. The only seat put in itself what it finds
  abbrev pub claimed_at : (T → ℕ) → ℕ → Me (Place T) (Hand T) → ℕ → Me (Place T) (Hand T) → Type 0
  claimed_at shape_of i m n m' =
      (n ≡ 0 → (x : T) × (shape_of x ≡ m.0.shape) × (times i m.0.numbers ≡ 0) × (m'.0 ≡ with_claim (last_moment m'.0) i m.0) × (m'.1 ≡ (i, Item x) ∷ m.1) × (m.0.shares ≡ all_shares → Contains m.0.put (i, x)))
      × (n ≢ 0 → (n ≡ 1) × (m'.0 ≡ with_look (last_moment m'.0) i m.0) × (m'.1 ≡ m.1))

  abbrev pub claimed : (T → ℕ) → Step (Place T) → Me (Place T) (Hand T) → ℕ → Me (Place T) (Hand T) → Type 0
  claimed shape_of st m n m' = claimed_at shape_of (st.word - 1) m n m'

  -- the empty place goes home
  abbrev pub settled : Step (Place T) → Me (Place T) (Hand T) → ℕ → Me (Place T) (Hand T) → Type 0
  settled st m n m' = (m'.0 ≡ with_place None m.0) × (m'.1 ≡ rest m.1)

  -- the empty place of the item i comes into the hands
  abbrev pub reached_at : ℕ → Me (Place T) (Hand T) → Me (Place T) (Hand T) → Type 0
  reached_at i m m' = (m'.0 ≡ with_place (Some i) m.0) × (m'.1 ≡ (i, Empty) ∷ m.1)

  abbrev pub reached : Step (Place T) → Me (Place T) (Hand T) → ℕ → Me (Place T) (Hand T) → Type 0
  reached st m n m' = reached_at (st.word - 1) m m'

  -- the place of the item i goes home with its item, and the word to 0
  abbrev pub cleared_at : ℕ → Me (Place T) (Hand T) → Me (Place T) (Hand T) → Type 0
  cleared_at i m m' = ((x : T) → m.1 ≡ (i, Item x) ∷ rest m.1 → m'.0 ≡ with_give (last_moment m'.0) i x m.0) × (m'.1 ≡ rest m.1)

  abbrev pub cleared : Step (Place T) → Me (Place T) (Hand T) → ℕ → Me (Place T) (Hand T) → Type 0
  cleared st m n m' = cleared_at (st.word - 1) m m'
