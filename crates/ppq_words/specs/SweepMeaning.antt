-- What the words of the command `sweep` mean to a reader: a relation above the definition that computes.
use Rattle.std.specs.Prelude.{◌≡◌, ◌≤◌, length, List, [], ◌∷◌, ◌++◌, flat_map, codes}
use Rattle.std.specs.List.{AllByRecursion as Each}
use Rattle.ppq_script.specs.Meaning.{Spells}
use Rattle.ppq_words.specs.Uses.{Text}
use Rattle.ppq_words.specs.Meaning.{Argument, spelled_as, IsNamed, value_in, IsPlain, scripts_in, values_of, HasNumber, HasSizes, IsName, IsQueueUsage}
use Rattle.ppq_words.specs.SweepReading.{SweepReading, sweep_usage}

-- The words are `sweep` and, in any order, the name of the edges and the options, each once, but for those of the budget. No value begins
-- with `-`, no name is empty, and each number is in its range.
pub record SweepReads (words : List Text) (r : SweepReading) : Type 0 where
  pub arguments : List Argument
  pub spelled : words ≡ codes "sweep" ∷ flat_map spelled_as arguments
  pub named : Each (IsNamed sweep_usage.options) arguments
  pub plain : Each (λ a. IsPlain (value_in a)) arguments
  pub edges : scripts_in arguments ≡ r.edges ∷ []
  pub some_edges : 1 ≤ length r.edges
  pub device : values_of (codes "--device") arguments ≡ r.device ∷ []
  pub some_device : 1 ≤ length r.device
  pub sizes : HasSizes arguments r.given
  pub nodes : HasNumber arguments (codes "--nodes") r.nodes
  pub few_nodes : r.nodes ≤ 4294967296

-- `sweep EDGES --device FILE --blocks D --workers P --block B --heap H (--memory M | --memory-bytes N) --nodes V`, with the names and numbers
-- of this reading
pub record IsSweepUsageOf (words : List Text) (r : SweepReading) : Type 0 where
  pub queue : List Text
  pub nodes : Text
  pub spelled : words ≡ codes "sweep" ∷ r.edges ∷ queue ++ codes "--nodes" ∷ nodes ∷ []
  pub edges : IsName r.edges
  pub queue_is : IsQueueUsage queue r.device r.given
  pub spelled_nodes : Spells nodes r.nodes
  pub few_nodes : r.nodes ≤ 4294967296
