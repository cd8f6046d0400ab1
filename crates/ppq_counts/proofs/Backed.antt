-- Stores of full heaps are backed by accepted records.
use Rattle.std.proofs.Common.{◌≡◌, ℕ, ◌+◌, ◌*◌, ◌≤◌, min, arith}
use Rattle.std.proofs.Math.Nat.{mul-le-mul_left}
use Rattle.ppq_counts.specs.Tally.{Tally, last, accepting, storing, IsBacked}

module _ (heap before : ℕ) where
  -- a record was accepted into a heap
  pub backed-accepting : (h n : ℕ) (t : Tally) → t.accepted + n ≤ last → IsBacked heap before h t → IsBacked heap before (h + n) (accepting n t)
  backed-accepting h n t few is =
      let e : min (t.accepted + n) last ≡ t.accepted + n = omega (arith, few) in
      record { within = omega (arith, is.within, e) }

  -- a store of a full heap was begun. The heaps have no other records than before, without those of that heap, whatever the answer
  pub backed-storing : (h rest : ℕ) (t : Tally) → rest + heap ≤ h → IsBacked heap before h t → IsBacked heap before rest (storing t)
  backed-storing h rest t fewer is =
      let e : min (t.stores + 1) last ≤ t.stores + 1 = omega arith in
      let product : heap * min (t.stores + 1) last ≤ heap * (t.stores + 1) = mul-le-mul_left heap e in
      record { within = omega (arith, is.within, product, fewer) }
