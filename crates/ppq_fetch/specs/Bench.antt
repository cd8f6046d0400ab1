-- What contracts see of a bench.
use Rattle.std.specs.Prelude.{ℕ, List, Option}

-- a place for each run, up to which the last merge took the run's records, how many workers there are, and the minimum of the next block of
-- each run that was told of
pub record Marks (R : Type 0) : Type 0 where
  pub places : List ℕ
  pub workers : ℕ
  pub hints : List (Option R)
