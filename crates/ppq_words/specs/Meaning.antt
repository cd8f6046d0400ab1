-- What the words of the command line mean to a reader: a relation above the definition that computes.
use Rattle.std.specs.Prelude.{◌≡◌, ◌⊎◌, ℕ, ⊤, ◌≤◌, length, bytes_eq, if◌then◌else◌, false, List, [], ◌∷◌, ◌++◌, flat_map, codes, Contains}
use Rattle.std.specs.List.{AllByRecursion as Each}
use Rattle.ppq_script.specs.Meaning.{Spells}
use Rattle.ppq_script.specs.declared.form.Form.{Form}
use Rattle.ppq_script.specs.declared.form.Form.TheVariants as form
use Rattle.ppq_words.specs.declared.budget_unit.BudgetUnit.{BudgetUnit}
use Rattle.ppq_words.specs.declared.budget_unit.BudgetUnit.TheVariants as unit
use Rattle.ppq_words.specs.Uses.{Text, begins_with_hyphen}
use Rattle.ppq_words.specs.Given.{Given, AreGivenInRange}
use Rattle.ppq_words.specs.Reading.{Reading, run_usage}

-- the script's name, or an option with its value: in the next word, as `--heap 1`, or after `=`, as `--heap=1`
pub data Argument : Type 0 where
  bare : Text → Argument
  apart : Text → Text → Argument
  joined : Text → Text → Argument

-- the words of an argument
abbrev pub spelled_as : Argument → List Text
spelled_as (bare value) = value ∷ []
spelled_as (apart name value) = name ∷ value ∷ []
spelled_as (joined name value) = (name ++ codes "=" ++ value) ∷ []

-- an option's name is one of these
abbrev pub IsNamed : List Text → Argument → Type 0
IsNamed options (bare value) = ⊤
IsNamed options (apart name value) = Contains options name
IsNamed options (joined name value) = Contains options name

-- its value
abbrev pub value_in : Argument → Text
value_in (bare value) = value
value_in (apart name value) = value
value_in (joined name value) = value

-- a text that does not begin with `-`
abbrev pub IsPlain : Text → Type 0
IsPlain text = begins_with_hyphen text ≡ false

-- the values of the words that stand alone
abbrev pub scripts_in : List Argument → List Text
scripts_in [] = []
scripts_in (bare value ∷ arguments) = value ∷ scripts_in arguments
scripts_in (apart name value ∷ arguments) = scripts_in arguments
scripts_in (joined name value ∷ arguments) = scripts_in arguments

-- the values of the options with this name
abbrev pub values_of : Text → List Argument → List Text
values_of name [] = []
values_of name (bare value ∷ arguments) = values_of name arguments
values_of name (apart n value ∷ arguments) = if bytes_eq n name then value ∷ values_of name arguments else values_of name arguments
values_of name (joined n value ∷ arguments) = if bytes_eq n name then value ∷ values_of name arguments else values_of name arguments

-- the option stands once, and its value spells this number
pub record HasNumber (arguments : List Argument) (name : Text) (n : ℕ) : Type 0 where
  pub digits : Text
  pub once : values_of name arguments ≡ digits ∷ []
  pub spelled : Spells digits n

-- the option of a unit, and that of the other
abbrev pub budget_option : BudgetUnit → Text
budget_option unit.Records = codes "--memory"
budget_option unit.Bytes = codes "--memory-bytes"

abbrev pub other_option : BudgetUnit → Text
other_option unit.Records = codes "--memory-bytes"
other_option unit.Bytes = codes "--memory"

-- this budget is given in this unit, and none in the other
pub record HasBudget (arguments : List Argument) (n : ℕ) (u : BudgetUnit) : Type 0 where
  pub given : HasNumber arguments (budget_option u) n
  pub alone : values_of (other_option u) arguments ≡ []

-- four numbers and the budget, each in its range
pub record HasSizes (arguments : List Argument) (g : Given) : Type 0 where
  pub blocks : HasNumber arguments (codes "--blocks") g.numbers.blocks
  pub workers : HasNumber arguments (codes "--workers") g.numbers.workers
  pub block : HasNumber arguments (codes "--block") g.numbers.block
  pub heap : HasNumber arguments (codes "--heap") g.numbers.heap
  pub budget : HasBudget arguments g.numbers.memory g.unit
  pub in_range : AreGivenInRange g

-- `--form` stands once with the name of this form; or it does not stand, and the form is text
abbrev pub HasForm : List Argument → Form → Type 0
HasForm arguments form.Text = (values_of (codes "--form") arguments ≡ []) ⊎ (values_of (codes "--form") arguments ≡ codes "text" ∷ [])
HasForm arguments form.Bytes = values_of (codes "--form") arguments ≡ codes "bytes" ∷ []

-- The words are `run` and, in any order, the script's name and the options, each once, but for those of the budget and of the form. No
-- value begins with `-`, no name is empty, and each number is in its range.
pub record Reads (words : List Text) (r : Reading) : Type 0 where
  pub arguments : List Argument
  pub spelled : words ≡ codes "run" ∷ flat_map spelled_as arguments
  pub named : Each (IsNamed run_usage.options) arguments
  pub plain : Each (λ a. IsPlain (value_in a)) arguments
  pub script : scripts_in arguments ≡ r.script ∷ []
  pub some_script : 1 ≤ length r.script
  pub device : values_of (codes "--device") arguments ≡ r.device ∷ []
  pub some_device : 1 ≤ length r.device
  pub blocks : HasNumber arguments (codes "--blocks") r.given.numbers.blocks
  pub workers : HasNumber arguments (codes "--workers") r.given.numbers.workers
  pub block : HasNumber arguments (codes "--block") r.given.numbers.block
  pub heap : HasNumber arguments (codes "--heap") r.given.numbers.heap
  pub budget : HasBudget arguments r.given.numbers.memory r.given.unit
  pub form : HasForm arguments r.form
  pub in_range : AreGivenInRange r.given

-- a name that words can say: it is not empty and does not begin with `-`
abbrev pub IsName : Text → Type 0
IsName name = (1 ≤ length name) × IsPlain name

-- `--memory M`, or `--memory-bytes N`
abbrev pub IsBudgetUsage : List Text → ℕ → BudgetUnit → Type 0
IsBudgetUsage words n u = (digits : Text) × ((words ≡ budget_option u ∷ digits ∷ []) × Spells digits n)

-- `--device FILE --blocks D --workers P --block B --heap H (--memory M | --memory-bytes N)`, with this name and these numbers
pub record IsQueueUsage (words : List Text) (device : Text) (g : Given) : Type 0 where
  pub blocks : Text
  pub workers : Text
  pub block : Text
  pub heap : Text
  pub budget : List Text
  pub spelled : words ≡ codes "--device" ∷ device ∷ codes "--blocks" ∷ blocks ∷ codes "--workers" ∷ workers ∷ codes "--block" ∷ block
      ∷ codes "--heap" ∷ heap ∷ budget
  pub device_is : IsName device
  pub spelled_blocks : Spells blocks g.numbers.blocks
  pub spelled_workers : Spells workers g.numbers.workers
  pub spelled_block : Spells block g.numbers.block
  pub spelled_heap : Spells heap g.numbers.heap
  pub budget_is : IsBudgetUsage budget g.numbers.memory g.unit
  pub in_range : AreGivenInRange g

-- `--form text` or nothing, or `--form bytes`
abbrev pub IsFormUsage : List Text → Form → Type 0
IsFormUsage words form.Text = (words ≡ []) ⊎ (words ≡ codes "--form" ∷ codes "text" ∷ [])
IsFormUsage words form.Bytes = words ≡ codes "--form" ∷ codes "bytes" ∷ []

-- `run SCRIPT --device FILE --blocks D --workers P --block B --heap H (--memory M | --memory-bytes N) [--form text|bytes]`, with the names
-- and numbers of this reading
pub record IsUsageOf (words : List Text) (r : Reading) : Type 0 where
  pub queue : List Text
  pub form : List Text
  pub spelled : words ≡ codes "run" ∷ r.script ∷ queue ++ form
  pub script : IsName r.script
  pub queue_is : IsQueueUsage queue r.device r.given
  pub form_is : IsFormUsage form r.form
