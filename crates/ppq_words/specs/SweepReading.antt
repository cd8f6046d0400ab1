-- What the words of the command `sweep` say, from the rules of the command line.
use Rattle.std.specs.Prelude.{ℕ, Bool, List, [], ◌∷◌, Option, Some, None, codes, option_and_then}
use Rattle.ppq_words.specs.declared.sweep_arguments.SweepArguments.{SweepArguments}
use Rattle.ppq_words.specs.Given.{Given}
use Rattle.ppq_words.specs.Reading.{not_empty, count_in, given_by}
use Rattle.ppq_words.specs.Strays.{may_parse}
use Rattle.ppq_words.specs.Uses.{Text, alone}
use Rattle.ppq_words.specs.Usage.{Usage, values_in}

-- the command `sweep`, with its eight options
abbrev pub sweep_usage : Usage
sweep_usage = record {
  word = codes "sweep";
  options = codes "--device" ∷ codes "--blocks" ∷ codes "--workers" ∷ codes "--block" ∷ codes "--heap" ∷ codes "--memory" ∷ codes "--memory-bytes" ∷ codes "--nodes" ∷ [];
}

-- the name of the edges, the device's name, the five numbers as they are given, and that of `--nodes`
pub record SweepReading : Type 0 where
  pub edges : Text
  pub device : Text
  pub given : Given
  pub nodes : ℕ

-- what arguments say, without where it lies in memory
abbrev pub as_sweep_reading : SweepArguments → SweepReading
as_sweep_reading a = record { edges = a.edges.now; device = a.device.now; given = a.given; nodes = a.nodes }

-- two names, the sizes and a number, where none is missing
abbrev pub sweep_reading_from : Option Text → Option Text → Option Given → Option ℕ → Option SweepReading
sweep_reading_from (Some edges) (Some device) (Some given) (Some nodes) = Some (record { edges = edges; device = device; given = given; nodes = nodes })
sweep_reading_from edges device given nodes = None

-- what the values under names say
abbrev pub sweep_reading_by : (Text → Option Text) → Option SweepReading
sweep_reading_by value =
    sweep_reading_from (option_and_then not_empty (value alone)) (option_and_then not_empty (value (codes "--device"))) (given_by value) (count_in (value (codes "--nodes")))

-- the reading of the words, where they have one
abbrev pub sweep_reading_of : List Text → Option SweepReading
sweep_reading_of words = option_and_then sweep_reading_by (values_in sweep_usage words)

-- the words go on to the parse
abbrev pub may_sweep : List Text → Bool
may_sweep = may_parse sweep_usage.word
