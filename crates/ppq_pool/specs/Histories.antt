-- The histories of Takes and Gives that the words and the views of a pool show, and the log of all that the seats did and found.
use Rattle.std.specs.Prelude.{◌≡◌, ℕ, ◌+◌, ◌<◌, ◌==◌, List, [], ◌∷◌, length, slice_index, if◌then◌else◌}
use mathlib.Core.Option.{some}
use lib.ListN.{get_elem?}
use Rattle.ppq_core.specs.declared.event.Event.{Event}
use Rattle.ppq_core.specs.declared.event.Event.TheVariants.{Take, Give, Draw, Push, Store}
use Rattle.ppq_core.specs.declared.place.Place.TheVariants.{Free, Held}
use Rattle.ppq_core.specs.History.{buffer_at, IsLegal}
use Rattle.ppq_table.specs.Sums.{times}
use Rattle.ppq_pool.specs.declared.hand.Hand.{Hand}
use Rattle.ppq_pool.specs.declared.hand.Move.{Move}
use Rattle.ppq_pool.specs.declared.hand.Move.TheVariants.{Took, Gave, Saw}

module _ {R : Type 0} where
  -- the moves of pass j in a history, the newest first
  abbrev pub moves_of : ℕ → List (Event R) → List Move
  moves_of j [] = []
  moves_of j (Take p b ∷ h) = if p == j then Took b ∷ moves_of j h else moves_of j h
  moves_of j (Give p b ∷ h) = if p == j then Gave b ∷ moves_of j h else moves_of j h
  moves_of j (Draw p s ∷ h) = moves_of j h
  moves_of j (Push p x ∷ h) = moves_of j h
  moves_of j (Store p s ∷ h) = moves_of j h

  -- the event of a move of seat j, before which those of h came. A look is no event
  abbrev pub add_event : ℕ → Move → List (Event R) → List (Event R)
  add_event j (Took i) h = Take j i ∷ h
  add_event j (Gave i) h = Give j i ∷ h
  add_event j (Saw i) h = h

  -- the Takes and Gives of a log. A log is a list of moves, each with the number of its seat, the newest first
  abbrev pub events_of : List (ℕ × Move) → List (Event R)
  events_of [] = []
  events_of (m ∷ log) = add_event m.0 m.1 (events_of log)

  -- somebody holds the item after these events
  abbrev pub IsOut : ℕ → List (Event R) → Type 0
  IsOut i h = (p : ℕ) × (buffer_at i h ≡ Held p)

  -- the move may come after these events: a free item is taken, and an item is given back or found held while somebody holds it
  abbrev pub MayMove : Move → List (Event R) → Type 0
  MayMove (Took i) h = buffer_at i h ≡ Free
  MayMove (Gave i) h = IsOut i h
  MayMove (Saw i) h = IsOut i h

-- the moves of seat j in a log, the newest first
abbrev pub trail_of : ℕ → List (ℕ × Move) → List Move
trail_of j [] = []
trail_of j (m ∷ log) = if m.0 == j then m.1 ∷ trail_of j log else trail_of j log

-- when seat j made them: how many moves of the log came before each
abbrev pub moments_of : ℕ → List (ℕ × Move) → List ℕ
moments_of j [] = []
moments_of j (m ∷ log) = if m.0 == j then length log ∷ moments_of j log else moments_of j log

-- each move of the log is by one of so many seats, and might come after those before it
abbrev pub IsTrueLog : Type 0 → ℕ → List (ℕ × Move) → Type 0
IsTrueLog R seats [] = Unit {0}
IsTrueLog R seats (m ∷ log) = (m.0 < seats) × MayMove {R = R} m.1 (events_of log) × IsTrueLog R seats log

-- Such a log for n items. After it an item is free where its word is 0, and held by somebody where its word is 1. Each view that is not void has its own moves of the log on its trail, all of them and in their order, and the moment of each. So a look stands after what the seat did before, and where it stands is on the trail
pub record ShowsLog (R : Type 0) {T : Type 0} (n : ℕ) (words : List ℕ) (views : List (Hand T)) (log : List (ℕ × Move)) : Type 0 where
  pub is_true : IsTrueLog R (length views) log
  pub is_free : (i : ℕ) → i < n → slice_index words (i + 1) ≡ 0 → buffer_at {R = R} i (events_of log) ≡ Free
  pub is_out : (i : ℕ) → i < n → slice_index words (i + 1) ≡ 1 → IsOut {R = R} i (events_of log)
  pub on_trail : (j : ℕ) (v : Hand T) → get_elem? views j ≡ some v → 0 < v.shares → trail_of j log ≡ v.trail
  pub on_time : (j : ℕ) (v : Hand T) → get_elem? views j ≡ some v → 0 < v.shares → moments_of j log ≡ v.moments

module _ {R T : Type 0} where
  -- A legal history of n buffers, with the number of each view for a pass. A buffer is free in it where its word is 0, and held by the pass whose view lists it. The moves of each pass are those that its view has
  pub record ShowsHistory (n : ℕ) (words : List ℕ) (views : List (Hand T)) (h : List (Event R)) : Type 0 where
    pub legal : IsLegal n 0 (length views) h
    pub when_free : (i : ℕ) → i < n → slice_index words (i + 1) ≡ 0 → buffer_at i h ≡ Free
    pub when_held : (i j : ℕ) (v : Hand T) → get_elem? views j ≡ some v → 0 < times i v.numbers → buffer_at i h ≡ Held j
    pub moved : (j : ℕ) (v : Hand T) → get_elem? views j ≡ some v → moves_of j h ≡ v.moves
