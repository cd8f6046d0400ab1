-- What a simulation is asked to do, and the run that the agenda machine makes of it.
use Rattle.std.specs.Prelude.{◌≡◌, ℕ, ◌/◌, List, Option, Some}
use Rattle.ppq_event.specs.ppq_record.declared.triple.Triple.{Triple}
use Rattle.ppq_event.specs.ppq_record.Triple.{triple_of}
use Rattle.ppq_event.specs.ppq_outside.Told.{bytes_or_none}
use Rattle.ppq_event.specs.ppq_handler.Roster.{Place}
use Rattle.ppq_event.specs.ppq_handler.Agenda.{Run, run}
use Rattle.ppq_engine.specs.ppq_load.Given.{records_of}
use Rattle.ppq_event.specs.Going.{greatest}
use Rattle.ppq_jobs.specs.declared.agenda.Agenda.{Agenda}

-- the events of the record file of this name and of so many bytes, up to a time, and no more than so many
pub record Asked : Type 0 where
  pub name : List ℕ
  pub bytes : ℕ
  pub until : ℕ
  pub events : ℕ

abbrev pub asked_of : Agenda → Asked
asked_of a = record { name = a.name.now; bytes = a.bytes; until = a.until; events = a.events }

-- how many events the file has
abbrev pub count_of : Asked → ℕ
count_of asked = asked.bytes / 24

-- the events of a file
abbrev pub events_in : (List ℕ → Option (List ℕ)) → List ℕ → List Triple
events_in files name = records_of triple_of 24 (bytes_or_none (files name))

-- the machine's run of the file's events
abbrev pub run_of : (List ℕ → Option (List ℕ)) → Asked → List Place → Run
run_of files asked places = run asked.until asked.events (events_in files asked.name) places

-- where the library tells, this holds of the machine's run of its file's events
abbrev pub OfRun : Option (List ℕ → Option (List ℕ)) → Asked → List Place → (Run → Type 0) → Type 0
OfRun told asked places P = (files : List ℕ → Option (List ℕ)) → told ≡ Some files → P (run_of files asked places)

-- the greatest number of events that wait at once in a run, at whose beginning so many wait
abbrev pub load_of_run : ℕ → Run → ℕ
load_of_run count run = greatest count run.waiting
