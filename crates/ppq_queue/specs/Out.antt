-- The list in which a bulk pop returns its records.
use Rattle.std.specs.Prelude.{ℕ, List}

-- its records in order, and how many there is room for
pub record Listed (R : Type 0) : Type 0 where
  pub items : List R
  pub room : ℕ

abbrev pub listed : {R : Type 0} → List R → ℕ → Listed R
listed items room = record { items = items; room = room }
