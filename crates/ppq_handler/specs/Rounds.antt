-- Rounds: events of one time are answered, and what follows is added behind all of them.
use Rattle.std.specs.Prelude.{◌≡◌, ℕ, ◌+◌, false, nat_lt, List, [], ◌∷◌, ◌++◌, length, flat_map, Option}
use Rattle.std.specs.List.{AllByRecursion as Each}
use Rattle.ppq_record.specs.declared.triple.Triple.{Triple}
use Rattle.ppq_record.specs.Triple.{triple_cmp}
use Rattle.ppq_record.specs.Order.{Ascends}
use Rattle.ppq_handler.specs.declared.outcome.Outcome.{Outcome}
use Rattle.ppq_handler.specs.Roster.{Place}
use Rattle.ppq_handler.specs.Agenda.{Run, turned, entry, follow_ups, answers_to, places_after_all, in_turn, run_from}

-- a run with a turn before it for each of these events and what was answered, where so many other events are waiting
abbrev pub after_turns : List Triple → List (Option Outcome) → ℕ → Run → Run
after_turns [] answers waits run = run
after_turns (e ∷ es) [] waits run = run
after_turns (e ∷ es) (a ∷ answers) waits run = turned (entry e a) (length es + waits + length (follow_ups a)) (after_turns es answers (waits + length (follow_ups a)) run)

-- the run after a round of these events, where the others are waiting: what follows from all of them is waiting too
abbrev pub after_round : ℕ → ℕ → ℕ → List Triple → List Triple → List Place → Run
after_round until left count events others places =
    let answers = answers_to 0 (length places) events places in
    after_turns events answers (length others) (run_from until left count (in_turn (others ++ flat_map follow_ups answers)) (places_after_all 0 (length places) events places))

-- the first events of an agenda in ascending order, all of one time, which is not too late, and the others behind them
pub record IsRound (until time : ℕ) (events others : List Triple) : Type 0 where
  pub one_time : Each (λ e. e.time ≡ time) events
  pub due : nat_lt until time ≡ false
  pub ascends : Ascends triple_cmp (events ++ others)

-- a round is as many turns of the run as it has events
abbrev pub RoundsAreTurns : Type 0
RoundsAreTurns =
    (until time left count : ℕ) (events others : List Triple) (places : List Place) → IsRound until time events others
    → run_from until (length events + left) count (events ++ others) places ≡ after_round until left (count + length events) events others places
