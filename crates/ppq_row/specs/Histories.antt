-- The history that a counter and the views of all seats show.
use Rattle.std.specs.Prelude.{◌≡◌, ℕ, zero, suc, ◌<◌, ◌≤◌, nat_lt, min, List, [], ◌∷◌, length, if◌then◌else◌}
use mathlib.Core.Option.{some}
use lib.ListN.{get_elem?}
use Rattle.ppq_table.specs.Sums.{times}
use Rattle.ppq_core.specs.declared.event.Event.{Event}
use Rattle.ppq_core.specs.declared.event.Event.TheVariants.{Draw}
use Rattle.ppq_core.specs.declared.place.Place.TheVariants.{Free, Held}
use Rattle.ppq_core.specs.History.{slot_at, draws, IsLegal}
use Rattle.ppq_row.specs.declared.hand.Hand.{Hand}

module _ {T : Type 0} where
  -- the number of the first view that lists the place i
  abbrev pub holder : ℕ → List (Hand T) → ℕ
  holder i [] = 0
  holder i (v ∷ views) = if nat_lt 0 (times i v.places) then 0 else suc (holder i views)

  -- the draws of the places below n, each by the seat whose view lists it, the newest first
  abbrev pub draws_of : {R : Type 0} → ℕ → List (Hand T) → List (Event R)
  draws_of zero views = []
  draws_of (suc n) views = Draw (holder n views) n ∷ draws_of n views

  -- With n items and the counter at c, the history is legal, with the numbers of the views for its passes. The slot i is free where the counter is at most i, and else it is held by the view that lists it
  pub record IsShown (R : Type 0) (n c : ℕ) (views : List (Hand T)) : Type 0 where
    pub legal : IsLegal 0 n (length views) (draws_of {R = R} (min c n) views)
    pub drawn : draws (draws_of {R = R} (min c n) views) ≡ min c n
    pub free : (i : ℕ) → c ≤ i → slot_at i (draws_of {R = R} (min c n) views) ≡ Free
    pub held : (i : ℕ) → i < c → i < n → (j : ℕ) × (v : Hand T) × (slot_at i (draws_of {R = R} (min c n) views) ≡ Held j) × (get_elem? views j ≡ some v) × (0 < times i v.places)
