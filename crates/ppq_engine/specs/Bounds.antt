-- What bounds the load and the crest of a script by its commands alone.
use Rattle.std.specs.Prelude.{◌≡◌, ℕ, ◌/◌, ◌≤◌, List, length}
use Rattle.std.specs.List.{AllByRecursion as Each}
use Rattle.ppq_script.specs.Words.{Words}
use Rattle.ppq_script.specs.declared.command.Command.{Command}
use Rattle.ppq_script.specs.declared.command.Command.TheVariants.{Bulk, BulkPopLimit, LimitPop}
use Rattle.ppq_engine.specs.Loads.{most_of, least_of}
use Rattle.ppq_engine.specs.Output.{load_of, crest_of}

-- the file of a command has as many records as its length says
abbrev pub HasLength : {R : Type 0} → Words R → (ℕ → List R) → Command R → Type 0
HasLength w given command = (file bytes : ℕ) → command ≡ Bulk file bytes → length (given file) ≡ bytes / w.WIDTH

-- a command that pops no records below a limit: what the size is behind it, its own numbers and the size before say
abbrev pub IsSized : {R : Type 0} → Command R → Type 0
IsSized {R} command = ((limit : R) (count : ℕ) → ¬ (command ≡ BulkPopLimit limit count)) × ¬ (command ≡ LimitPop)

-- The greatest and the least size that a script can lead to bound its load and its crest, and where nothing is popped below a limit they are these
pub record AreBounds {R : Type 0} (w : Words R) (given : ℕ → List R) (commands : List (Command R)) : Type 0 where
  pub most : load_of w given commands ≤ most_of w commands
  pub least : least_of w commands ≤ crest_of w given commands
  pub crest : crest_of w given commands ≤ load_of w given commands
  pub most_is : Each IsSized commands → most_of w commands ≡ load_of w given commands
  pub least_is : Each IsSized commands → least_of w commands ≡ crest_of w given commands
