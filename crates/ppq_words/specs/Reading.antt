-- What the words of the command `run` say, from the rules of the command line.
use Rattle.std.specs.Prelude.{ℕ, ◌*◌, ◌/◌, Bool, ◌&&◌, List, [], ◌∷◌, Option, Some, None, if◌then◌else◌, codes, map, nat_le, bytes_eq, option_map, option_and_then, string_bytes, String}
use Rattle.std.specs.declared.alloc.Global.{Global}
use Rattle.ppq_budget.specs.Sizes.{Numbers}
use Rattle.ppq_script.specs.Number.{number_of}
use Rattle.ppq_script.specs.declared.form.Form.{Form}
use Rattle.ppq_script.specs.declared.form.Form.TheVariants as form
use Rattle.ppq_words.specs.declared.budget_unit.BudgetUnit.{BudgetUnit}
use Rattle.ppq_words.specs.declared.budget_unit.BudgetUnit.TheVariants as unit
use Rattle.ppq_words.specs.declared.run_arguments.RunArguments.{RunArguments}
use Rattle.ppq_words.specs.Given.{Given, given_as, largest}
use Rattle.ppq_words.specs.Uses.{Text, alone}
use Rattle.ppq_words.specs.Usage.{Usage, values_in}

-- the command `run`, with its eight options
abbrev pub run_usage : Usage
run_usage = record {
  word = codes "run";
  options = codes "--device" ∷ codes "--blocks" ∷ codes "--workers" ∷ codes "--block" ∷ codes "--heap" ∷ codes "--memory" ∷ codes "--memory-bytes" ∷ codes "--form" ∷ [];
}

-- the script's name, the device's name, the five numbers as they are given, and the form of the output
pub record Reading : Type 0 where
  pub script : Text
  pub device : Text
  pub given : Given
  pub form : Form

-- what arguments say, without where it lies in memory
abbrev pub as_reading : RunArguments → Reading
as_reading a = record { script = a.script.now; device = a.device.now; given = a.given; form = a.form }

-- so many records of this width in a unit
abbrev pub in_unit : ℕ → BudgetUnit → ℕ → ℕ
in_unit width unit.Records records = records
in_unit width unit.Bytes records = records * width

-- a budget in this unit in records of this width: of bytes as many as fit
abbrev pub in_records : ℕ → BudgetUnit → ℕ → ℕ
in_records width unit.Records budget = budget
in_records width unit.Bytes budget = budget / width

-- the sizes of a queue of records of this width
abbrev pub sizes_for : ℕ → Given → Numbers
sizes_for width given = record given.numbers { memory = in_records width given.unit given.numbers.memory }

-- the same of what the words say
abbrev pub sizes_at : ℕ → Reading → Numbers
sizes_at width r = sizes_for width r.given

-- the sizes of each of two queues that share the budget and the device: half of the records and half of the blocks, rounded down
abbrev pub half_sizes_for : ℕ → Given → Numbers
half_sizes_for width given = record (sizes_for width given) { memory = (sizes_for width given).memory / 2; blocks = (sizes_for width given).blocks / 2 }

-- the bytes of each word
abbrev pub texts_of : List (String Global) → List Text
texts_of words = map (λ w. string_bytes w) words

-- a text that is not empty
abbrev pub not_empty : Text → Option Text
not_empty [] = None
not_empty (b ∷ bs) = Some (b ∷ bs)

-- each number is in its range
abbrev pub are_in_range : Given → Bool
are_in_range g = nat_le 1 g.numbers.workers && (nat_le g.numbers.workers 64 && (nat_le 2 g.numbers.block && (nat_le g.numbers.block 65536
    && (nat_le 1 g.numbers.heap && (nat_le g.numbers.heap 64 && (nat_le g.numbers.memory (largest g.unit) && nat_le g.numbers.blocks 65536))))))

-- these numbers, where each is in its range
abbrev pub in_range : Given → Option Given
in_range g = if are_in_range g then Some g else None

-- four numbers and a budget in its unit, each in its range
abbrev pub given_of : Option ℕ → Option ℕ → Option ℕ → Option ℕ → Option (ℕ × BudgetUnit) → Option Given
given_of (Some blocks) (Some workers) (Some block) (Some heap) (Some budget) = in_range (given_as workers block heap budget blocks)
given_of blocks workers block heap budget = None

-- the number that a value spells
abbrev pub number_in : Option Text → Option ℕ
number_in text = option_and_then number_of text

-- a number, where it is at most 2^32
abbrev pub as_count : ℕ → Option ℕ
as_count n = if nat_le n 4294967296 then Some n else None

-- the number of at most 2^32 that a value spells
abbrev pub count_in : Option Text → Option ℕ
count_in text = option_and_then as_count (number_in text)

-- the budget and its unit, by the values of `--memory` and `--memory-bytes`, where just one is there
abbrev pub budget_of : Option Text → Option Text → Option (ℕ × BudgetUnit)
budget_of None None = None
budget_of (Some records) None = option_map (λ n. (n, unit.Records)) (number_of records)
budget_of None (Some bytes) = option_map (λ n. (n, unit.Bytes)) (number_of bytes)
budget_of (Some records) (Some bytes) = None

-- the sizes that the values under names say
abbrev pub given_by : (Text → Option Text) → Option Given
given_by value =
    given_of (number_in (value (codes "--blocks"))) (number_in (value (codes "--workers"))) (number_in (value (codes "--block"))) (number_in (value (codes "--heap")))
    (budget_of (value (codes "--memory")) (value (codes "--memory-bytes")))

-- the form that a value names: text where there is none
abbrev pub form_of : Option Text → Option Form
form_of None = Some form.Text
form_of (Some name) = if bytes_eq name (codes "text") then Some form.Text else if bytes_eq name (codes "bytes") then Some form.Bytes else None

-- two names, the numbers and the form, where none is missing
abbrev pub reading_from : Option Text → Option Text → Option Given → Option Form → Option Reading
reading_from (Some script) (Some device) (Some given) (Some form) = Some (record { script = script; device = device; given = given; form = form })
reading_from script device given form = None

-- what the values under names say
abbrev pub reading_by : (Text → Option Text) → Option Reading
reading_by value =
    reading_from (option_and_then not_empty (value alone)) (option_and_then not_empty (value (codes "--device"))) (given_by value) (form_of (value (codes "--form")))

-- the reading of the words, where they have one
abbrev pub reading_of : List Text → Option Reading
reading_of words = option_and_then reading_by (values_in run_usage words)
