-- What the words of the command `serve` mean to a reader: a relation above the definition that computes.
use Rattle.std.specs.Prelude.{◌≡◌, ◌≤◌, length, List, [], ◌∷◌, flat_map, codes}
use Rattle.std.specs.List.{AllByRecursion as Each}
use Rattle.ppq_words.specs.Uses.{Text}
use Rattle.ppq_words.specs.Meaning.{Argument, spelled_as, IsNamed, value_in, IsPlain, scripts_in, values_of, HasSizes, IsQueueUsage}
use Rattle.ppq_words.specs.ServeReading.{ServeReading, serve_usage}

-- The words are `serve` and, in any order, the options, each once, but for those of the budget. No word stands alone, no value begins with
-- `-`, no name is empty, and each number is in its range.
pub record ServeReads (words : List Text) (r : ServeReading) : Type 0 where
  pub arguments : List Argument
  pub spelled : words ≡ codes "serve" ∷ flat_map spelled_as arguments
  pub named : Each (IsNamed serve_usage.options) arguments
  pub plain : Each (λ a. IsPlain (value_in a)) arguments
  pub none_alone : scripts_in arguments ≡ []
  pub device : values_of (codes "--device") arguments ≡ r.device ∷ []
  pub some_device : 1 ≤ length r.device
  pub sizes : HasSizes arguments r.given

-- `serve --device FILE --blocks D --workers P --block B --heap H (--memory M | --memory-bytes N)`, with the name and numbers of this reading
pub record IsServeUsageOf (words : List Text) (r : ServeReading) : Type 0 where
  pub queue : List Text
  pub spelled : words ≡ codes "serve" ∷ queue
  pub queue_is : IsQueueUsage queue r.device r.given
