-- The numbers of blocks that are made one after the other.
use Rattle.std.proofs.Common.{◌≡◌, ℕ, ◌+◌, List, [], ◌∷◌, ◌++◌, sym, ap, ◌∙◌, subst, arith, append_assoc}
use Rattle.std.specs.List.{range_with_len}
use Rattle.std.proofs.lemmas.List.{map-id}
use Rattle.std.proofs.lemmas.List.FromFn.{map-range_with_len_more}
use Rattle.ppq_queue.specs.ppq_outside.Made.{HasMade}

-- one number more
pub range-more : (n : ℕ) → range_with_len 0 (n + 1) ≡ range_with_len 0 n ++ n ∷ []
range-more n =
    sym (map-id (range_with_len 0 (n + 1))) ∙ map-range_with_len_more (λ k. k) 0 n n (omega arith) ∙ ap (λ (t : List ℕ). t ++ n ∷ []) (map-id (range_with_len 0 n))

-- one block more that a rack made
pub made-more : (before mid now : List ℕ → Type 0) (n : ℕ) → HasMade before mid (range_with_len 0 n) → HasMade mid now (n ∷ []) → HasMade before now (range_with_len 0 (n + 1))
made-more before mid now n so_far more = λ made had.
    subst now (append_assoc made (range_with_len 0 n) (n ∷ []) ∙ ap (λ (t : List ℕ). made ++ t) (sym (range-more n))) (more (made ++ range_with_len 0 n) (so_far made had))
