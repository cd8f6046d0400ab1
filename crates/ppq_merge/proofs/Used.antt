-- The places where a worker's piece begins: those that are used lie behind others.
use Rattle.std.proofs.Common.{◌≡◌, ℕ, List, ◌++◌, length, drop, refl, ap, ◌∙◌, arith}
use Rattle.std.proofs.lemmas.List.{drop-append-le}
use Rattle.std.proofs.Math.ListN.{drop_of_length-le}
use Rattle.ppq_merge.specs.Seat.{used}

pub used_is : (all : List ℕ) → drop 16 all ≡ used all
unfolding used
used_is all = refl

pub used-append : (front rest : List ℕ) → length front ≡ 16 → used (front ++ rest) ≡ rest
unfolding used
used-append front rest h = drop-append-le 16 front rest (omega arith) ∙ ap (λ xs. xs ++ rest) (drop_of_length-le front {i = 16} (omega arith))
