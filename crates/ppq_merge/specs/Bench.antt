-- What contracts see of a bench.
use Rattle.std.specs.Prelude.{ℕ, List}

-- a place for each run, up to which the last merge took the run's records, and how many workers there are
pub record Cuts : Type 0 where
  pub places : List ℕ
  pub workers : ℕ
