-- What the words of the command `sim` say, from the rules of the command line.
use Rattle.std.specs.Prelude.{ℕ, Bool, List, [], ◌∷◌, Option, Some, None, codes, option_and_then}
use Rattle.ppq_words.specs.declared.sim_arguments.SimArguments.{SimArguments}
use Rattle.ppq_words.specs.Given.{Given}
use Rattle.ppq_words.specs.Reading.{not_empty, number_in, count_in, given_by}
use Rattle.ppq_words.specs.Strays.{may_parse}
use Rattle.ppq_words.specs.Uses.{Text, alone}
use Rattle.ppq_words.specs.Usage.{Usage, values_in}

-- the command `sim`, with its nine options
abbrev pub sim_usage : Usage
sim_usage = record {
  word = codes "sim";
  options = codes "--device" ∷ codes "--blocks" ∷ codes "--workers" ∷ codes "--block" ∷ codes "--heap" ∷ codes "--memory" ∷ codes "--memory-bytes" ∷ codes "--until" ∷ codes "--events" ∷ [];
}

-- the agenda's name, the device's name, the five numbers as they are given, and those of `--until` and `--events`
pub record SimReading : Type 0 where
  pub agenda : Text
  pub device : Text
  pub given : Given
  pub until : ℕ
  pub events : ℕ

-- what arguments say, without where it lies in memory
abbrev pub as_sim_reading : SimArguments → SimReading
as_sim_reading a = record { agenda = a.agenda.now; device = a.device.now; given = a.given; until = a.until; events = a.events }

-- two names, the sizes and two numbers, where none is missing
abbrev pub sim_reading_from : Option Text → Option Text → Option Given → Option ℕ → Option ℕ → Option SimReading
sim_reading_from (Some agenda) (Some device) (Some given) (Some until) (Some events) = Some (record { agenda = agenda; device = device; given = given; until = until; events = events })
sim_reading_from agenda device given until events = None

-- what the values under names say
abbrev pub sim_reading_by : (Text → Option Text) → Option SimReading
sim_reading_by value =
    sim_reading_from (option_and_then not_empty (value alone)) (option_and_then not_empty (value (codes "--device"))) (given_by value) (number_in (value (codes "--until"))) (count_in (value (codes "--events")))

-- the reading of the words, where they have one
abbrev pub sim_reading_of : List Text → Option SimReading
sim_reading_of words = option_and_then sim_reading_by (values_in sim_usage words)

-- the words go on to the parse
abbrev pub may_sim : List Text → Bool
may_sim = may_parse sim_usage.word
