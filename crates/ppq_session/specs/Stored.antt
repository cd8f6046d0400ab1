-- What passes moved into runs in blocks, as the stores of a history that pool and row show.
use Rattle.std.specs.Prelude.{◌≡◌, ℕ, ◌-◌, ◌<◌, ◌==◌, if◌then◌else◌, Bool, true, false, List, [], ◌∷◌, filter, length, take}
use mathlib.Core.Option.{some}
use lib.ListN.{get_elem?}
use Rattle.ppq_pass.specs.ppq_outside.Shown.{Shown}
use Rattle.ppq_pass.specs.ppq_array.declared.berth.DeviceBlock.{DeviceBlock}
use Rattle.ppq_pass.specs.ppq_array.Kept.{SameSlots, times_of}
use Rattle.ppq_pass.specs.ppq_array.Owner.{slots_shown}
use Rattle.ppq_pass.specs.ppq_core.declared.event.Event.{Event}
use Rattle.ppq_pass.specs.ppq_core.declared.event.Event.TheVariants.{Take, Give, Draw, Push, Store}
use Rattle.ppq_pass.specs.ppq_core.declared.place.Place.TheVariants.{Held}
use Rattle.ppq_pass.specs.ppq_core.History.{slot_at, pushed_by}
use Rattle.ppq_pass.specs.ppq_row.declared.hand.Hand.{Hand as RowHand}
use Rattle.ppq_pass.specs.ppq_row.Rule.{RowRule}
use Rattle.ppq_pass.specs.declared.shared.PoolBuf.{PoolBuf}
use Rattle.ppq_pass.specs.Passing.{items_at}
use Rattle.ppq_pass.specs.Passed.{PassHolding}
use Rattle.ppq_session.specs.OneHistory.{RowState, PoolAndRow, Seating, ShowsTogether}

module _ {R : Type 0} where
  -- the event is no store
  abbrev pub is_no_store : Event R → Bool
  is_no_store (Take p b) = true
  is_no_store (Give p b) = true
  is_no_store (Draw p s) = true
  is_no_store (Push p r) = true
  is_no_store (Store p s) = false

  -- a history without its stores
  abbrev pub without_stores : List (Event R) → List (Event R)
  without_stores h = filter is_no_store h

  -- each store of it is of a slot that its pass holds
  abbrev pub AreStoresOf : ℕ → ℕ → List (Event R) → Type 0
  AreStoresOf slots passes [] = Unit {0}
  AreStoresOf slots passes (Take p b ∷ h) = AreStoresOf slots passes h
  AreStoresOf slots passes (Give p b ∷ h) = AreStoresOf slots passes h
  AreStoresOf slots passes (Draw p s ∷ h) = AreStoresOf slots passes h
  AreStoresOf slots passes (Push p r ∷ h) = AreStoresOf slots passes h
  AreStoresOf slots passes (Store p s ∷ h) = ((p < passes) × (s < slots) × (slot_at s h ≡ Held p)) × AreStoresOf slots passes h

  -- the places that the pass q stored, the latest first
  abbrev pub stored_by : ℕ → List (Event R) → List ℕ
  stored_by q [] = []
  stored_by q (Take p b ∷ h) = stored_by q h
  stored_by q (Give p b ∷ h) = stored_by q h
  stored_by q (Draw p s ∷ h) = stored_by q h
  stored_by q (Push p r ∷ h) = stored_by q h
  stored_by q (Store p s ∷ h) = if p == q then s ∷ stored_by q h else stored_by q h

-- Stores may stand anywhere behind their draws: a history that differs by stores alone, each of a slot that its pass holds, is shown too
abbrev pub StoresStandAnywhere : Type 0 → Type 0 → Type 0 → Type 0
StoresStandAnywhere B S R = (x : Seating B S) (s : PoolAndRow B S) (h k : List (Event R)) → ShowsTogether x s h → without_stores k ≡ without_stores h → AreStoresOf (length x.slots) x.passes k → ShowsTogether x s k

module _ {S R : Type 0} where
  -- the slots of the runs of a pass: all that it holds but its stash
  abbrev pub in_runs : PassHolding S R → List Shown
  in_runs pass = take (length pass.slots - pass.stash) pass.slots

  module _ (shown : S → Shown) where
    -- the slots at these places, as they were put into the row
    abbrev pub slots_at : List (DeviceBlock S R) → List ℕ → List Shown
    slots_at items places = slots_shown shown (items_at items places)

    -- The pass p has a seat of the row: it drew the slots at the places that the seat lists, and it holds just those that it drew
    pub record DrewBySeat (x : Seating (PoolBuf R) (DeviceBlock S R)) (s : RowState (DeviceBlock S R)) (p : ℕ) (pass : PassHolding S R) : Type 0 where
      pub seat : ℕ
      pub view : RowHand (DeviceBlock S R)
      pub at : get_elem? s.views seat ≡ some view
      pub of : x.row_pass seat ≡ p
      pub drawn : pass.drawn ≡ slots_at x.slots view.places
      pub slots : SameSlots pass.drawn pass.slots

    -- the slots that the pass p stored are those of its runs, each as often, told by their numbers
    abbrev pub HasStored : List (DeviceBlock S R) → ℕ → List (Event R) → PassHolding S R → Type 0
    HasStored items p h pass = (number : ℕ) → times_of number (slots_at items (stored_by p h)) ≡ times_of number (in_runs pass)

-- Whatever history h pool and row show, there is one with the same takes, gives, draws and pushes, in their order, in which each pass has stored the slots of its runs and no others
abbrev pub RunsAreStored : (S R : Type 0) → (S → Shown) → Type 0
RunsAreStored S R shown =
    (x : Seating (PoolBuf R) (DeviceBlock S R)) (s : PoolAndRow (PoolBuf R) (DeviceBlock S R)) (passes : List (PassHolding S R)) (h : List (Event R))
    → RowRule x.slots s.row
    → ((p : ℕ) (pass : PassHolding S R) → get_elem? passes p ≡ some pass → DrewBySeat shown x s.row p pass)
    → ShowsTogether x s h
    → (k : List (Event R)) × ShowsTogether x s k × (without_stores k ≡ without_stores h) × ((p : ℕ) → pushed_by p k ≡ pushed_by p h)
    × ((p : ℕ) (pass : PassHolding S R) → get_elem? passes p ≡ some pass → HasStored shown x.slots p k pass)
