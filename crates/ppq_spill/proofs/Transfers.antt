-- How often slots were written and read.
use Rattle.std.proofs.Common.{◌≡◌, ℕ, ◌+◌, ◌*◌, ◌<◌, ◌≤◌, [], ◌∷◌, arith}
use Rattle.std.proofs.lemmas.Nat.{mul-le}
use Rattle.std.proofs.lemmas.List.Sums.{sum_by-cons}
use Rattle.ppq_fetch.specs.ppq_outside.Shown.{Shown}
use Rattle.ppq_fetch.specs.ppq_outside.Told.{next_count}
use Rattle.ppq_fetch.specs.ppq_array.Kept.{MoreWrites}
use Rattle.ppq_spill.specs.Went.{AtLeast}

pub fewer : (k n block most : ℕ) → k ≤ n → n * block < most → k * block < most
fewer k n block most h few = let e : k * block ≤ n * block = mul-le k block n block h (omega arith) in omega (arith, e, few)

-- calls of one slot
pub one_slot : (most : ℕ) (s t : Shown) → t.writes ≤ s.writes + most → t.reads ≤ s.reads → MoreWrites most (s ∷ []) (t ∷ [])
one_slot most s t writes reads =
    record {
      writes = omega (arith, writes, sum_by-cons (λ (x : Shown). x.writes) s [], sum_by-cons (λ (x : Shown). x.writes) t []);
      reads = omega (arith, reads, sum_by-cons (λ (x : Shown). x.reads) s [], sum_by-cons (λ (x : Shown). x.reads) t []);
    }

-- it was written once
pub one_least : (s t : Shown) → t.writes ≡ next_count s.writes → AtLeast 1 (s ∷ []) (t ∷ [])
one_least s t once exact = omega (arith, once, exact, sum_by-cons (λ (x : Shown). x.writes) s [], sum_by-cons (λ (x : Shown). x.writes) t [])
