-- What checking a script's files answers, and what it makes of the script.
use Rattle.std.specs.Prelude.{◌≡◌, ◌⊎◌, ℕ, ◌≤◌, Bool, ⊤, List, Option, Some, None, Result, Ok, Err, IsOk, IsErrOf, IsSomeAnd, MatchOption, map, length}
use Rattle.std.specs.List.{AllZip, Any}
use Rattle.ppq_outside.specs.Told.{Reply, OfLength, Rose, bytes_or_none}
use Rattle.ppq_files.specs.declared.length.LengthFault.{LengthFault}
use Rattle.ppq_files.specs.declared.length.LengthFault.TheVariants as fault
use Rattle.ppq_script.specs.declared.command.Command.{Command}
use Rattle.ppq_script.specs.declared.command.Command.TheVariants.{Bulk}
use Rattle.ppq_script.specs.declared.numbered.Numbered.{Numbered}
use Rattle.ppq_script.specs.declared.check.CheckFault.{CheckFault}
use Rattle.ppq_script.specs.declared.check.CheckFault.TheVariants.{BadLine, ReadFault, Memory}
use Rattle.ppq_script.specs.Files.{file_in, name_at, IsRecordLength, bad_among, IsBadAmong, NoFile}
use Rattle.ppq_script.specs.Reading.{Reading}
use Rattle.ppq_script.specs.Words.{Words}

-- why there is no length of a file, as a fault of checking the command on a line
abbrev pub check_refusal : ℕ → LengthFault → CheckFault
check_refusal line fault.Failed = ReadFault
check_refusal line fault.Memory = Memory
check_refusal line fault.Absent = BadLine line
check_refusal line fault.NoRecords = BadLine line

-- the first bad line of a script, by which files can be used
abbrev pub bad_of : {R : Type 0} → (List ℕ → Bool) → Reading R → Option ℕ
bad_of usable script = bad_among usable script.names script.commands script.bad

-- this bad line is answered, and only where there is one; or a call failed, or memory was wanting
abbrev pub IsCheckAnswer : {T : Type 0} → Option ℕ → Result T CheckFault → Type 0
IsCheckAnswer bad result = MatchOption bad (IsOk result) (λ line. IsErrOf result (BadLine line)) ⊎ (IsErrOf result ReadFault ⊎ IsErrOf result Memory)

-- what a refusal says by the library's replies
abbrev pub CheckRefusalIsRight : {R : Type 0} → Words R → (Reply → Type 0) → Reading R → CheckFault → Type 0
CheckRefusalIsRight words replied script (BadLine line) = IsBadAmong words replied script.names script.commands script.bad line
CheckRefusalIsRight words replied script ReadFault = ⊤
CheckRefusalIsRight words replied script Memory = ⊤

-- what a refusal by a command says, which names a file: the library replied of it, and the fault names its line
abbrev pub ItemRefusalIsRight : {R : Type 0} → Words R → (Reply → Type 0) → List (List ℕ) → Numbered R → CheckFault → Type 0
ItemRefusalIsRight words replied names item (BadLine line) = (item.line ≡ line) × NoFile words replied names (file_in item.command)
ItemRefusalIsRight words replied names item ReadFault = ⊤
ItemRefusalIsRight words replied names item Memory = ⊤

-- by the first of the commands whose file cannot be used, whatever line behind them is bad
abbrev pub CommandsRefusalIsRight : {R : Type 0} → Words R → (Reply → Type 0) → List (List ℕ) → List (Numbered R) → CheckFault → Type 0
CommandsRefusalIsRight words replied names items (BadLine line) = (bad : Option ℕ) → IsBadAmong words replied names items bad line
CommandsRefusalIsRight words replied names items ReadFault = ⊤
CommandsRefusalIsRight words replied names items Memory = ⊤

-- a command with another length of its file, if it names one
abbrev pub IsSameFile : {R : Type 0} → Option (ℕ × ℕ) → Command R → Command R → Type 0
IsSameFile None old new = new ≡ old
IsSameFile (Some file) old new = (length : ℕ) × (new ≡ Bulk file.0 length)

pub record IsSameItem {R : Type 0} (old new : Numbered R) : Type 0 where
  pub line : new.line ≡ old.line
  pub command : IsSameFile (file_in old.command) old.command new.command

-- a command with the length of a record file that the library replied of its file, if it names one
abbrev pub IsAskedFile : {R : Type 0} → Words R → (Reply → Type 0) → List (List ℕ) → Option (ℕ × ℕ) → Command R → Command R → Type 0
IsAskedFile words replied names None old new = new ≡ old
IsAskedFile words replied names (Some file) old new = (length : ℕ) × ((new ≡ Bulk file.0 length) × (replied (OfLength (name_at names file.0) (Some length)) × IsRecordLength words length))

pub record IsAsked {R : Type 0} (words : Words R) (replied : Reply → Type 0) (names : List (List ℕ)) (old new : Numbered R) : Type 0 where
  pub line : new.line ≡ old.line
  pub command : IsAskedFile words replied names (file_in old.command) old.command new.command

-- a command with the length that its file has in this library, if it names one
abbrev pub with_size : {R : Type 0} → (List ℕ → Option (List ℕ)) → List (List ℕ) → Option (ℕ × ℕ) → Command R → Command R
with_size files names None command = command
with_size files names (Some file) command = Bulk file.0 (length (bytes_or_none (files (name_at names file.0))))

abbrev pub with_sizes : {R : Type 0} → (List ℕ → Option (List ℕ)) → List (List ℕ) → List (Numbered R) → List (Numbered R)
with_sizes {R} files names items = map (λ (n : Numbered R). record n { command = with_size files names (file_in n.command) n.command }) items

-- the script after a check: only the lengths of its files and whether it is checked may differ
pub record IsSameScript {R : Type 0} (old new : Reading R) : Type 0 where
  pub commands : AllZip IsSameItem old.commands new.commands
  pub bad : new.bad ≡ old.bad
  pub names : new.names ≡ old.names
  pub workers : new.workers ≡ old.workers

-- the count of faults stayed, unless a call failed
abbrev pub StaysUnlessRead : ℕ → ℕ → CheckFault → Type 0
StaysUnlessRead before now (BadLine line) = now ≡ before
StaysUnlessRead before now ReadFault = ⊤
StaysUnlessRead before now Memory = now ≡ before

-- the reply is the length that a command keeps of its file
abbrev pub IsKeptBy : {R : Type 0} → List (List ℕ) → Reply → Numbered R → Type 0
IsKeptBy names reply item = IsSomeAnd (file_in item.command) (λ file. reply ≡ OfLength (name_at names file.0) (Some file.1))

-- the reply is the length that one of the commands keeps of its file
abbrev pub IsKeptAmong : {R : Type 0} → List (List ℕ) → List (Numbered R) → Reply → Type 0
IsKeptAmong names items reply = Any (IsKeptBy names reply) items

-- the same of a script's commands
abbrev pub IsKeptLength : {R : Type 0} → Reading R → Reply → Type 0
IsKeptLength script reply = IsKeptAmong script.names script.commands reply

-- the count of faults rose where a call failed, and else it stayed
abbrev pub RisesByRead : ℕ → ℕ → CheckFault → Type 0
RisesByRead before now (BadLine line) = now ≡ before
RisesByRead before now ReadFault = (before ≤ now) × Rose before now
RisesByRead before now Memory = now ≡ before

abbrev pub CountsFaults : {T : Type 0} → ℕ → ℕ → Result T CheckFault → Type 0
CountsFaults before now (Ok value) = now ≡ before
CountsFaults before now (Err fault) = RisesByRead before now fault
