-- What the words of the command `sim` mean to a reader: a relation above the definition that computes.
use Rattle.std.specs.Prelude.{◌≡◌, ◌≤◌, length, List, [], ◌∷◌, ◌++◌, flat_map, codes}
use Rattle.std.specs.List.{AllByRecursion as Each}
use Rattle.ppq_script.specs.Meaning.{Spells}
use Rattle.ppq_words.specs.Uses.{Text}
use Rattle.ppq_words.specs.Meaning.{Argument, spelled_as, IsNamed, value_in, IsPlain, scripts_in, values_of, HasNumber, HasSizes, IsName, IsQueueUsage}
use Rattle.ppq_words.specs.SimReading.{SimReading, sim_usage}

-- The words are `sim` and, in any order, the agenda's name and the options, each once, but for those of the budget. No value begins with
-- `-`, no name is empty, and each number is in its range.
pub record SimReads (words : List Text) (r : SimReading) : Type 0 where
  pub arguments : List Argument
  pub spelled : words ≡ codes "sim" ∷ flat_map spelled_as arguments
  pub named : Each (IsNamed sim_usage.options) arguments
  pub plain : Each (λ a. IsPlain (value_in a)) arguments
  pub agenda : scripts_in arguments ≡ r.agenda ∷ []
  pub some_agenda : 1 ≤ length r.agenda
  pub device : values_of (codes "--device") arguments ≡ r.device ∷ []
  pub some_device : 1 ≤ length r.device
  pub sizes : HasSizes arguments r.given
  pub until : HasNumber arguments (codes "--until") r.until
  pub events : HasNumber arguments (codes "--events") r.events
  pub few_events : r.events ≤ 4294967296

-- `sim AGENDA --device FILE --blocks D --workers P --block B --heap H (--memory M | --memory-bytes N) --until T --events E`, with the names
-- and numbers of this reading
pub record IsSimUsageOf (words : List Text) (r : SimReading) : Type 0 where
  pub queue : List Text
  pub until : Text
  pub events : Text
  pub spelled : words ≡ codes "sim" ∷ r.agenda ∷ queue ++ codes "--until" ∷ until ∷ codes "--events" ∷ events ∷ []
  pub agenda : IsName r.agenda
  pub queue_is : IsQueueUsage queue r.device r.given
  pub spelled_until : Spells until r.until
  pub spelled_events : Spells events r.events
  pub few_events : r.events ≤ 4294967296
