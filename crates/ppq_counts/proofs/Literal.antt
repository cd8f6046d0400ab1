-- The account of an owner, as the two inequalities over its runs.
use Rattle.std.proofs.Common.{◌≡◌, ℕ, ◌+◌, ◌-◌, ◌*◌, ◌^◌, ◌≤◌, List, length, sum_by, arith}
use Rattle.ppq_counts.specs.Tally.{Tally, runs_of}
use Rattle.ppq_counts.specs.Account.{too_heavy, heft, account, IsPaid}
use Rattle.ppq_counts.proofs.Levels.{tolls-parts, hefts-sum, heft-suc}

-- a weight that is too heavy is 8^8
pub too_heavy-is : too_heavy ≡ 8 ^ 8
unfolding heft
too_heavy-is = omega (arith, heft-suc 7)

module _ {X : Type 0} (level size blocks : X → ℕ) (workers block : ℕ) (t : Tally) (writes reads in_memory : ℕ) (runs : List X) (is : IsPaid workers block t (account level size blocks block writes reads runs in_memory)) where
  -- the levels of the runs are bounded by how many runs the numbers allow
  pub levels-within : sum_by (λ x. heft (level x)) runs ≤ runs_of workers t
  levels-within = omega (arith, is.weight, hefts-sum level size runs)

  -- blocks written, records in memory, records of runs with the levels above them, and how many runs there are
  pub writes-within :
      7 * (block * writes + sum_by (λ x. (7 - level x) * size x) runs + 8 * in_memory) + block * length runs ≤ 56 * (t.accepted + workers * block * (t.stores + t.sessions)) + 8 * (block * runs_of workers t)
  writes-within = omega (arith, is.spent, tolls-parts level size block runs)
