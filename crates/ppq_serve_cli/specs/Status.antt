-- The status of an outcome, and an outcome that was reported.
use Rattle.std.specs.Prelude.{◌≡◌, ◌⊎◌, ℕ, List, Option}
use Rattle.ppq_answer.specs.ppq_frames.ppq_outside.Told.{TakesAll, TakesPart, Rose}
use Rattle.ppq_answer.specs.ppq_frames.ppq_outside.declared.sink.Sink.{Ghosts as SinkShows}
use Rattle.ppq_answer.specs.ppq_engine.declared.end.End.{End}
use Rattle.ppq_answer.specs.ppq_engine.declared.end.End.TheVariants as end
use Rattle.ppq_answer.specs.declared.outcome.Answered.{Answered}
use Rattle.ppq_answer.specs.declared.outcome.Outcome.{Outcome}
use Rattle.ppq_answer.specs.declared.outcome.Outcome.TheVariants.{Ended, BadRequest}
use Rattle.ppq_serve_cli.specs.Report.{line_of}

-- the number of an end, as `ppq` has it
abbrev pub end_status : End → ℕ
end_status end.Done = 0
end_status (end.BadLine line) = 1
end_status end.Usage = 2
end_status end.ReadFault = 3
end_status end.WriteFault = 4
end_status (end.DeviceFault number) = 5
end_status end.NoFreeBlock = 6
end_status (end.BudgetTooSmall need) = 7
end_status end.Memory = 8
end_status (end.FileChanged line said got) = 9
end_status end.NoDevice = 10
end_status end.NoScript = 11
end_status end.ScriptTooLong = 12
end_status end.BadAgenda = 13
end_status (end.BadEdge at) = 14

abbrev pub status_of : Outcome → ℕ
status_of (Ended over) = end_status over
status_of (BadRequest number) = 1

-- where the sink tells, it took the whole line; or its count of faults rose, and it took a prefix
abbrev pub TakesLine : Option (List ℕ) → Option (List ℕ) → ℕ → ℕ → List ℕ → Type 0
TakesLine before now faults faults_now line = TakesAll before now line ⊎ (Rose faults faults_now × TakesPart before now line)

-- an outcome of this kind has this status, and its line was taken by a sink for reports, before the call and after it
abbrev pub IsReported : {E S : Type 0} → SinkShows E → E → E → ℕ → (Answered S → Type 0) → Type 0
IsReported {E} {S} errors before now status P = (answered : Answered S) × (P answered × ((status ≡ status_of answered.outcome) × TakesLine (errors.told before) (errors.told now) (errors.faults before) (errors.faults now) (line_of answered.outcome)))
