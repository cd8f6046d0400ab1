-- What a script is read as.
use Rattle.std.specs.Prelude.{◌≡◌, ℕ, Bool, true, List, Option, None, map, All}
use Rattle.ppq_script.specs.declared.command.Command.{Command}
use Rattle.ppq_script.specs.declared.numbered.Numbered.{Numbered}
use Rattle.ppq_script.specs.declared.session.Session.TheVariants.{Outside}
use Rattle.ppq_script.specs.Files.{HasRecords}
use Rattle.ppq_script.specs.Sessions.{are_in_place}
use Rattle.ppq_script.specs.Words.{Words}

-- the commands before the first bad line with their lines, that line, the names of the files, which commands call by their places
-- here, the number of workers, and whether all is good, the files too
pub record Reading (R : Type 0) : Type 0 where
  pub commands : List (Numbered R)
  pub bad : Option ℕ
  pub names : List (List ℕ)
  pub workers : ℕ
  pub checked : Bool

-- the commands alone
abbrev pub command_list : {R : Type 0} → Reading R → List (Command R)
command_list script = map (λ n. n.command) script.commands

-- the numbers of their lines
abbrev pub line_list : {R : Type 0} → Reading R → List ℕ
line_list script = map (λ n. n.line) script.commands

-- no line is bad, each length that the script keeps is one of a record file, and each command may stand where it does, with no
-- session open behind the last
pub record IsReady {R : Type 0} (words : Words R) (script : Reading R) : Type 0 where
  pub good : script.bad ≡ None
  pub lengths : All (λ n. HasRecords words n.command) script.commands
  pub in_place : are_in_place words script.workers Outside (command_list script) ≡ true
