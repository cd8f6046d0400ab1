-- The numbers of a queue, with those of passes on top.
use Rattle.std.specs.Prelude.{ℕ, List, sum_by}
use Rattle.ppq_pass.specs.ppq_counts.Tally.{Tally, tally, joined}
use Rattle.ppq_pass.specs.Passed.{PassHolding}

module _ {S R : Type 0} where
  -- how many records passes accepted
  abbrev pub accepted_of : List (PassHolding S R) → ℕ
  accepted_of passes = sum_by (λ p. p.accepted) passes

  -- how many stores of a full heap they began
  abbrev pub stores_of : List (PassHolding S R) → ℕ
  stores_of passes = sum_by (λ p. p.stores) passes

  -- numbers with those of passes on top
  abbrev pub tally_with : Tally → List (PassHolding S R) → Tally
  tally_with t passes = joined t (tally (accepted_of passes) (stores_of passes) 0)
