-- The places of a roster.
use Rattle.std.specs.Prelude.{ℕ, cond, List, map, Option, Some, None}
use Rattle.ppq_handler.specs.declared.outcome.Outcome.{Outcome}
use Rattle.ppq_handler.specs.Handling.{Standing, after_word, answer_by}

-- none, or what is told of a handler
abbrev pub Place : Type 0
Place = Option Standing

-- what a place has, by what is told of a handler
abbrev pub place_at : {B : Type 0} → (B → Standing) → Option B → Place
place_at stands None = None
place_at stands (Some b) = Some (stands b)

abbrev pub places_of : {B : Type 0} → (B → Standing) → List (Option B) → List Place
places_of stands roster = map (place_at stands) roster

-- the place after an event of this time and word: a handler that retires has left it
abbrev pub answered : Place → ℕ → ℕ → ℕ → ℕ → Place
answered None now me peers word = None
answered (Some h) now me peers word = cond (answer_by h now me peers word).retire None (Some (after_word h word))

-- what is answered from a place
abbrev pub outcome_at : Place → ℕ → ℕ → ℕ → ℕ → Option Outcome
outcome_at None now me peers word = None
outcome_at (Some h) now me peers word = Some (answer_by h now me peers word)
