-- The five numbers from which the sizes of a queue follow, as the arguments give them.
use Rattle.std.specs.Prelude.{ℕ, ◌≤◌}
use Rattle.ppq_budget.specs.Sizes.{Numbers, numbers, AreInRange}
use Rattle.ppq_words.specs.declared.budget_unit.BudgetUnit.{BudgetUnit}
use Rattle.ppq_words.specs.declared.budget_unit.BudgetUnit.TheVariants as unit

-- the numbers, of which the budget is in this unit
pub record Given : Type 0 where
  pub numbers : Numbers
  pub unit : BudgetUnit

abbrev pub given_as : ℕ → ℕ → ℕ → ℕ × BudgetUnit → ℕ → Given
given_as workers block heap budget blocks = record { numbers = numbers workers block heap budget.0 blocks; unit = budget.1 }

-- the largest budget in a unit: of bytes as many as the largest one in records has, 16 for each
abbrev pub largest : BudgetUnit → ℕ
largest unit.Records = 268435456
largest unit.Bytes = 4294967296

-- each number is in its range, and the budget in that of its unit
pub record AreGivenInRange (g : Given) : Type 0 where
  pub others : AreInRange (record g.numbers { memory = 0 })
  pub budget : g.numbers.memory ≤ largest g.unit
