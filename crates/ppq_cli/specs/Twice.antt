-- How two runs in turn end, and what they wrote where both are of one script.
use Rattle.std.specs.Prelude.{◌≡◌, ◌⊎◌, ℕ, List, Option, Some, None, String}
use Rattle.std.specs.declared.alloc.Global.{Global}
use Rattle.ppq_words.specs.ppq_outside.Shown.{Shown}
use Rattle.ppq_words.specs.ppq_outside.Told.{TakesAll}
use Rattle.ppq_words.specs.ppq_outside.declared.library.Library.{Ghosts as LibraryShows}
use Rattle.ppq_words.specs.ppq_outside.declared.rack.Rack.{Ghosts as RackShows}
use Rattle.ppq_words.specs.ppq_outside.declared.sink.Sink.{Ghosts as SinkShows}
use Rattle.ppq_words.specs.Reading.{Reading}
use Rattle.ppq_jobs.specs.ppq_engine.declared.end.End.{End}
use Rattle.ppq_jobs.specs.ppq_engine.declared.end.End.TheVariants.{Done}
use Rattle.ppq_jobs.specs.ppq_engine.declared.end.Ended.{Ended}
use Rattle.ppq_cli.specs.RunWords.{RunsWords}

-- an outcome of `run_words` with this end, whatever its blocks
abbrev pub RunsTo : {L K O S : Type 0} → LibraryShows L → RackShows K S → SinkShows O → (S → Shown) → List (String Global) → L → L → K → K → O → O → End → Type 0
RunsTo {L} {K} {O} {S} library rack sink shown words old_library new_library old_rack new_rack old_out new_out end =
    (ended : Ended S) × (RunsWords library rack sink shown words old_library new_library old_rack new_rack old_out new_out ended × (ended.end ≡ end))

-- The answer of two runs in turn, of which the second begins with what the first left: where the first was done, it is the end of the second;
-- else it is that of the first, and the second was idle
abbrev pub EndInTurn : {L : Type 0} → (L → End → Type 0) → (L → End → Type 0) → (L → Type 0) → End → Type 0
EndInTurn {L} first second idle end = (left : L) × ((first left Done × second left end) ⊎ (first left end × ((end ≡ Done → ⊥) × idle left)))

-- where both sinks tell, each took the same bytes behind what it had
abbrev pub WriteTheSame : Option (List ℕ) → Option (List ℕ) → Option (List ℕ) → Option (List ℕ) → Type 0
WriteTheSame before now other_before other_now = (written : List ℕ) × (TakesAll before now written × TakesAll other_before other_now written)

-- both readings name the same script and the same form, maybe with other sizes
abbrev pub NameOneScript : Option Reading → Option Reading → Type 0
NameOneScript None other = ⊥
NameOneScript (Some reading) None = ⊥
NameOneScript (Some reading) (Some other) = (reading.script ≡ other.script) × (reading.form ≡ other.form)
