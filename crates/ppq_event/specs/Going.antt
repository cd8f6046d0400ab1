-- How far a simulation is in the run of its agenda.
use Rattle.std.specs.Prelude.{◌≡◌, ℕ, ◌+◌, ◌-◌, ◌<◌, ◌≤◌, cond, nat_lt, nat_eq, max, List, [], ◌∷◌, ◌++◌, flat_map, length, Option, Some, None, Result, Ok, Err, ⊤}
use Rattle.ppq_handler.specs.ppq_record.declared.triple.Triple.{Triple}
use Rattle.ppq_handler.specs.ppq_outside.Told.{TakesPart, Rose}
use Rattle.ppq_handler.specs.declared.outcome.Outcome.{Outcome}
use Rattle.ppq_handler.specs.declared.ending.Ending.{Ending}
use Rattle.ppq_handler.specs.declared.ending.Ending.TheVariants.{Empty, Until, Full}
use Rattle.ppq_handler.specs.Roster.{Place}
use Rattle.ppq_handler.specs.Agenda.{Entry, entry, entry_text, Run, ended, in_turn, run_from}
use Rattle.ppq_text.specs.Gathering.{Gathers}
use Rattle.ppq_event.specs.declared.clock.Clock.{Clock}
use Rattle.ppq_event.specs.declared.fault.SimFault.{SimFault}
use Rattle.ppq_event.specs.declared.fault.SimFault.TheVariants.{Write, Queue}
use Rattle.ppq_event.specs.declared.step.Step.{Step}
use Rattle.ppq_event.specs.declared.step.Step.TheVariants.{Ended, Took}

-- the entries of events and what was answered
abbrev pub entries_of : List Triple → List (Option Outcome) → List Entry
entries_of [] answers = []
entries_of (e ∷ es) [] = []
entries_of (e ∷ es) (a ∷ answers) = entry e a ∷ entries_of es answers

-- a run with these entries before it, and so many events waiting after each of them
abbrev pub prefixed : List Entry → List ℕ → Run → Run
prefixed entries waiting run = record { entries = entries ++ run.entries; waiting = waiting ++ run.waiting; ending = run.ending; places = run.places }

-- the greatest of a number and these
abbrev pub greatest : ℕ → List ℕ → ℕ
greatest n [] = n
greatest n (m ∷ ms) = greatest (max n m) ms

-- how a run ends before the next event, if it does
abbrev pub ending_before : Option Triple → ℕ → ℕ → ℕ → Option Ending
ending_before None until left count = Some (Empty count)
ending_before (Some e) until left count = cond (nat_lt until e.time) (Some (Until count)) (cond (nat_eq left 0) (Some (Full count)) None)

-- where the count of a sink's faults stands after a step of a simulation: it rose only where the sink stopped it
abbrev pub SinkAfter : {T : Type 0} → ℕ → ℕ → Result T SimFault → Type 0
SinkAfter before now (Ok value) = now ≡ before
SinkAfter before now (Err Write) = Rose before now
SinkAfter before now (Err (Queue fault)) = now ≡ before

-- what was written and gathered: the sink's bytes and those that are gathered
pub record Text : Type 0 where
  pub told : Option (List ℕ)
  pub gathered : List ℕ

abbrev pub text_of : Option (List ℕ) → List ℕ → Text
text_of told gathered = record { told = told; gathered = gathered }

-- The first turns of a run were made, and the rest is to be made: their lines were gathered, and of the peaks before and after the latter is no
-- more than the greatest of the former and of what was waiting after each turn
pub record HasMade (whole rest : Run) (was now : ℕ) (old new : Text) : Type 0 where
  pub entries : List Entry
  pub waiting : List ℕ
  pub same_long : length waiting ≡ length entries
  pub run : whole ≡ prefixed entries waiting rest
  pub gathered : Gathers old.told new.told old.gathered (flat_map entry_text entries) new.gathered
  pub peak : now ≤ greatest was waiting

-- a part of what was gathered and of the lines of a run's first turns was written
pub record HasWritten (whole : Run) (old new : Text) : Type 0 where
  pub entries : List Entry
  pub waiting : List ℕ
  pub rest : Run
  pub run : whole ≡ prefixed entries waiting rest
  pub part : TakesPart old.told new.told (old.gathered ++ flat_map entry_text entries)

-- what a fault leaves of a run
abbrev pub StopsRun : Run → ℕ → ℕ → Text → Text → SimFault → Type 0
StopsRun whole was now old new Write = HasWritten whole old new
StopsRun whole was now old new (Queue fault) = (rest : Run) × HasMade whole rest was now old new

-- the run that is to be made
abbrev pub run_at : Clock → List Triple → List Place → Run
run_at clock bag places = run_from clock.until clock.left clock.count (in_turn bag) places

-- so many turns later
abbrev pub later : Clock → ℕ → Clock
later clock turns = record { until = clock.until; left = clock.left - turns; count = clock.count + turns }

-- the run that is left after a step, and the places
abbrev pub left_after : Clock → List Triple → List Place → Step → Run
left_after clock bag places (Ended ending) = ended ending places
left_after clock bag places (Took turns) = run_at (later clock turns) bag places

-- the turns that a step took of those that are left; a queue that had so many events counts one more for each at the most
abbrev pub IsFew : ℕ → ℕ → ℕ → Step → Type 0
IsFew left was now (Ended ending) = ⊤
IsFew left was now (Took turns) = (0 < turns) × (turns ≤ left) × (now ≤ was + turns)
