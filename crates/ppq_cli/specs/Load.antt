-- How loading a script and reading it end, and asking for the length of a file of records.
use Rattle.std.specs.Prelude.{◌≡◌, ℕ, ◌≤◌, List, length, Option, Some, None, if◌then◌else◌, Result, OnOk, IfErr, IsErrOf}
use Rattle.ppq_files.specs.declared.whole.WholeFault.{WholeFault}
use Rattle.ppq_files.specs.declared.whole.WholeFault.TheVariants.{Failed, Memory, Absent, TooLong, Ended}
use Rattle.ppq_files.specs.Lengths.{is_record_length}
use Rattle.ppq_files.specs.declared.length.LengthFault.{LengthFault}
use Rattle.ppq_files.specs.declared.length.LengthFault.TheVariants as lengths
use Rattle.ppq_words.specs.ppq_outside.Told.{Rose}
use Rattle.ppq_words.specs.ppq_script.Words.{Words}
use Rattle.ppq_words.specs.ppq_script.Lines.{LineKind, lines_of, kinds_of}
use Rattle.ppq_words.specs.ppq_script.declared.check.CheckFault.{CheckFault}
use Rattle.ppq_words.specs.ppq_script.declared.check.CheckFault.TheVariants as check
use Rattle.ppq_jobs.specs.ppq_engine.Ends.{NoFault}
use Rattle.ppq_jobs.specs.ppq_engine.declared.end.End.{End}
use Rattle.ppq_jobs.specs.ppq_engine.declared.end.End.TheVariants as end
use Rattle.ppq_cli.specs.declared.plan.Plan.{Plan}
use Rattle.ppq_cli.specs.Budget.{refusal_by}

-- what each line of a script of these bytes is where it stands, for so many workers, if it is about such records
abbrev pub script_kinds : {R : Type 0} → Words R → List ℕ → ℕ → List (LineKind R)
script_kinds words bytes workers = kinds_of words workers (lines_of bytes)

-- a fault of loading as an end
abbrev pub load_end : WholeFault → End
load_end Failed = end.ReadFault
load_end Memory = end.Memory
load_end Absent = end.NoScript
load_end TooLong = end.ScriptTooLong
load_end (Ended said got) = end.FileChanged 0 said got

-- why there is no length of a file of records, as an end: this one where the file is not of whole records
abbrev pub length_end : End → LengthFault → End
length_end no_records lengths.Failed = end.ReadFault
length_end no_records lengths.Memory = end.Memory
length_end no_records lengths.Absent = end.NoScript
length_end no_records lengths.NoRecords = no_records

-- the answer that refuses a file of so many bytes: first that these are not whole records of this width, or too many of them, then that the budget is
-- too small
abbrev pub refusal_of_record_length : ℕ → Plan → End → ℕ → Option End
refusal_of_record_length width plan no_records size = if is_record_length width size then refusal_by plan else Some no_records

-- before both, that it is not there
abbrev pub refusal_of_record_file : ℕ → Plan → End → Option (List ℕ) → Option End
refusal_of_record_file width plan no_records None = Some end.NoScript
refusal_of_record_file width plan no_records (Some bytes) = refusal_of_record_length width plan no_records (length bytes)

-- a fault of checking a script's files as an end
abbrev pub check_end : CheckFault → End
check_end (check.BadLine line) = end.BadLine line
check_end check.ReadFault = end.ReadFault
check_end check.Memory = end.Memory

-- A count of faults in a call that reads a script and asks for its files: it did not fall, it stayed but for an error that names a fault, and rose where
-- the library failed
pub record CheckCounts {T : Type 0} (before now : ℕ) (result : Result T CheckFault) : Type 0 where
  pub later : before ≤ now
  pub stays : OnOk result (now ≡ before)
  pub unless : IfErr result (λ fault. NoFault (check_end fault) → now ≡ before)
  pub read : IsErrOf result check.ReadFault → Rose before now
