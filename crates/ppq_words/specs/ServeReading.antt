-- What the words of the command `serve` say, from the rules of the command line.
use Rattle.std.specs.Prelude.{Bool, List, [], ◌∷◌, Option, Some, None, codes, option_and_then}
use Rattle.ppq_words.specs.declared.serve_arguments.ServeArguments.{ServeArguments}
use Rattle.ppq_words.specs.Given.{Given}
use Rattle.ppq_words.specs.Reading.{not_empty, given_by}
use Rattle.ppq_words.specs.Strays.{may_parse}
use Rattle.ppq_words.specs.Uses.{Text, alone}
use Rattle.ppq_words.specs.Usage.{Usage, values_in}

-- the command `serve`, with its seven options
abbrev pub serve_usage : Usage
serve_usage = record {
  word = codes "serve";
  options = codes "--device" ∷ codes "--blocks" ∷ codes "--workers" ∷ codes "--block" ∷ codes "--heap" ∷ codes "--memory" ∷ codes "--memory-bytes" ∷ [];
}

-- the device's name, and the five numbers as they are given
pub record ServeReading : Type 0 where
  pub device : Text
  pub given : Given

-- what arguments say, without where it lies in memory
abbrev pub as_serve_reading : ServeArguments → ServeReading
as_serve_reading a = record { device = a.device.now; given = a.given }

-- no word that stands alone, a name and the sizes, where neither is missing
abbrev pub serve_reading_from : Option Text → Option Text → Option Given → Option ServeReading
serve_reading_from None (Some device) (Some given) = Some (record { device = device; given = given })
serve_reading_from script device given = None

-- what the values under names say
abbrev pub serve_reading_by : (Text → Option Text) → Option ServeReading
serve_reading_by value = serve_reading_from (value alone) (option_and_then not_empty (value (codes "--device"))) (given_by value)

-- the reading of the words, where they have one
abbrev pub serve_reading_of : List Text → Option ServeReading
serve_reading_of words = option_and_then serve_reading_by (values_in serve_usage words)

-- the words go on to the parse
abbrev pub may_serve : List Text → Bool
may_serve = may_parse serve_usage.word
