-- What each kind of step does to the histories that a pool shows.
use Rattle.std.specs.Prelude.{◌≡◌, ℕ, ◌+◌, ◌-◌, ◌<◌, List, [], ◌∷◌, ◌++◌, All, Contains, length, slice_index, slice_set, Option}
use mathlib.Core.Option.{some}
use lib.ListN.{get_elem?}
use Rattle.atomic_table.specs.Table.{State, Allows}
use Rattle.ppq_core.specs.declared.event.Event.{Event}
use Rattle.ppq_core.specs.declared.event.Event.TheVariants.{Take, Give}
use Rattle.ppq_table.specs.declared.place.Place.{Place}
use Rattle.ppq_table.specs.Places.{IsLaid}
use Rattle.ppq_table.specs.Sums.{times}
use Rattle.ppq_pool.specs.declared.hand.Hand.{Hand}
use Rattle.ppq_pool.specs.declared.hand.Move.{Move}
use Rattle.ppq_pool.specs.declared.hand.Move.TheVariants.{Saw}
use Rattle.ppq_pool.specs.Hands.{first_hand, common_shape, less_one, newcomer, with_claim, with_look, with_place, with_give}
use Rattle.ppq_pool.specs.Histories.{ShowsHistory, ShowsLog, IsOut, events_of, trail_of}
use Rattle.ppq_pool.specs.Rule.{NoneVoid, PoolRule}
use Rattle.ppq_pool.specs.Seats.{IsLook}

module _ {T : Type 0} (shape_of : T → ℕ) (shape : ℕ) where
  -- the state meets the rule, the seat id has the view v, and i is the number of an item
  abbrev pub Stands : State (Place T) (Hand T) → ℕ → Hand T → ℕ → Type 0
  Stands s id v i = PoolRule shape_of shape s × (get_elem? s.views id ≡ some v) × (i + 1 < length s.homes)

module _ (T R : Type 0) where
  -- the history that these words and views show, for as many items as the state has
  abbrev pub ShowsWith : State (Place T) (Hand T) → List ℕ → List (Hand T) → List (Event R) → Type 0
  ShowsWith s words views h = ShowsHistory (length s.homes - 1) words views h

  -- A claim that finds the item free is one Take by its seat, and a clear is one Give. No other step, and no split, is an event. Every state that meets the rule shows a legal history, unless seats were joined
  pub record StepsAreEvents : Type 0 where
    pub shown : (shape_of : T → ℕ) (shape : ℕ) (s : State (Place T) (Hand T)) → PoolRule shape_of shape s → NoneVoid s.views → (h : List (Event R)) × ShowsWith s s.words s.views h
    pub claims : (shape_of : T → ℕ) (shape : ℕ) (s : State (Place T) (Hand T)) (id : ℕ) (v : Hand T) (i moment : ℕ) (h : List (Event R)) → Stands shape_of shape s id v i → slice_index s.words (i + 1) ≡ 0
        → ShowsWith s s.words s.views h → ShowsWith s (slice_set s.words (i + 1) 1) (slice_set s.views id (with_claim moment i v)) (Take id i ∷ h)
    pub looks : (shape_of : T → ℕ) (shape : ℕ) (s : State (Place T) (Hand T)) (id : ℕ) (v : Hand T) (i moment : ℕ) (h : List (Event R)) → Stands shape_of shape s id v i → slice_index s.words (i + 1) ≡ 1
        → ShowsWith s s.words s.views h → ShowsWith s (slice_set s.words (i + 1) 1) (slice_set s.views id (with_look moment i v)) h
    pub settles_and_reaches : (shape_of : T → ℕ) (shape : ℕ) (s : State (Place T) (Hand T)) (id : ℕ) (v : Hand T) (i : ℕ) (place : Option ℕ) (h : List (Event R)) → Stands shape_of shape s id v i → 0 < times i v.numbers
        → ShowsWith s s.words s.views h → ShowsWith s (slice_set s.words (i + 1) 1) (slice_set s.views id (with_place place v)) h
    pub clears : (shape_of : T → ℕ) (shape : ℕ) (s : State (Place T) (Hand T)) (id : ℕ) (v : Hand T) (i moment : ℕ) (x : T) (h : List (Event R)) → Stands shape_of shape s id v i → 0 < times i v.numbers
        → ShowsWith s s.words s.views h → ShowsWith s (slice_set s.words (i + 1) 0) (slice_set s.views id (with_give moment i x v)) (Give id i ∷ h)
    pub splits : (s : State (Place T) (Hand T)) (id : ℕ) (v : Hand T) (h : List (Event R)) → get_elem? s.views id ≡ some v
        → ShowsWith s s.words s.views h → ShowsWith s s.words (slice_set s.views id (less_one v) ++ newcomer v ∷ []) h

-- In every state that meets the rule there is one true log of all steps so far. Each look on the trail of a seat that is not void stands in it, at its moment: so many moves of all seats came before it, what this seat did before it is what stands after it on the trail, and somebody held the item then
abbrev pub LooksAreTrue : Type 0 → Type 0
LooksAreTrue T = (shape_of : T → ℕ) (shape : ℕ) (s : State (Place T) (Hand T)) → PoolRule shape_of shape s
    → (log : List (ℕ × Move)) × ShowsLog T (length s.homes - 1) s.words s.views log
    × ((j : ℕ) (v : Hand T) (i moment : ℕ) (later earlier : List Move) (ends begins : List ℕ) → get_elem? s.views j ≡ some v → 0 < v.shares → v.trail ≡ later ++ Saw i ∷ earlier → v.moments ≡ ends ++ moment ∷ begins → length ends ≡ length later
    → (after : List (ℕ × Move)) × (before : List (ℕ × Move)) × (log ≡ after ++ (j, Saw i) ∷ before) × (length before ≡ moment) × (trail_of j before ≡ earlier) × IsOut {R = T} i (events_of before))

-- In a new pool, whose items are all free, the rule lets no step of the first seat put a look on its trail, whatever word the step is on and whatever the word becomes
abbrev pub NoBlindLook : Type 0 → Type 0
NoBlindLook T = (shape_of : T → ℕ) (shape : ℕ) (items : List T) (places : List (Place T)) (i word : ℕ) (becomes : ℕ → ℕ)
    → length items < 4294967296 → All (λ x. shape_of x ≡ shape) items → IsLaid items places
    → ¬ (Allows (PoolRule shape_of (common_shape shape_of items)) (length items + 1) 0 (first_hand (common_shape shape_of items) items, []) word becomes (λ _ after. after.0.trail ≡ Saw i ∷ []))

-- Nor is there such a step later, of any seat, as long as no seats were joined. Whatever all seats did before: where the item i is free, no step of a seat puts looks on its trail of which one found i held, whatever word the step is on and whatever the word becomes
abbrev pub NoFalseLook : Type 0 → Type 0
NoFalseLook T = (shape_of : T → ℕ) (shape : ℕ) (s : State (Place T) (Hand T)) (id : ℕ) (v : Hand T) (carried : List (ℕ × Place T)) (i word : ℕ) (becomes : ℕ → ℕ) (looks : List Move)
    → Stands shape_of shape s id v i → NoneVoid s.views → slice_index s.words (i + 1) ≡ 0 → slice_index s.words word < 18446744073709551616 → All IsLook looks → Contains looks (Saw i)
    → ¬ (Allows (PoolRule shape_of shape) (length s.homes) id (v, carried) word becomes (λ _ after. after.0.trail ≡ looks ++ v.trail))

-- Where no seat that has shares counts a join, no seats were joined, so words and views show a legal history
abbrev pub JoinsAreCounted : Type 0 → Type 0
JoinsAreCounted T = (shape_of : T → ℕ) (shape : ℕ) (s : State (Place T) (Hand T)) → PoolRule shape_of shape s
    → ((j : ℕ) (v : Hand T) → get_elem? s.views j ≡ some v → 0 < v.shares → v.joins ≡ 0) → NoneVoid s.views
