-- A generator of records.
use Rattle.std.specs.Prelude.{ℕ}

-- What contracts see of one: its seed, its number before the next record, how many records come before that, and how many are to come
pub record Generating : Type 0 where
  pub seed : ℕ
  pub key : ℕ
  pub number : ℕ
  pub left : ℕ
