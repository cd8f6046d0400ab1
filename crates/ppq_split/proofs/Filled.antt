-- Places that are written one after the other.
use Rattle.std.proofs.Common.{◌≡◌, ℕ, zero, suc, ◌+◌, ◌<◌, ◌≤◌, List, [], ◌∷◌, ◌++◌, length, take, get_or, set, sym, ap, subst, inl, inr, ◌∙◌, arith}
use Rattle.std.proofs.lemmas.Bool.{cases_eq}
use Rattle.std.proofs.lemmas.List.{length-append, take_more_set, get_or-set_same, get_or-set_other}
use Rattle.ppq_record.specs.Runs.{list_at, all_of}
use Rattle.ppq_split.specs.Cut.{AreWithin, total}

pub total-append : (xs ys : List ℕ) → total (xs ++ ys) ≡ total xs + total ys
total-append [] ys = omega arith
total-append (x ∷ xs) ys = omega (arith, total-append xs ys)

-- one place more
pub total-more : (cs : List ℕ) (k v : ℕ) → k < length cs → total (take (k + 1) (set cs k v)) ≡ total (take k cs) + v
total-more cs k v l = ap total (take_more_set cs k v l) ∙ (total-append (take k cs) (v ∷ []) ∙ omega arith)

-- what holds of each place so far and of the next one
pub each_more : (P : ℕ → ℕ → Type 0) (cs : List ℕ) (k v : ℕ) → k < length cs → P k v → ((j : ℕ) → j < k → P j (get_or cs j 0)) → (j : ℕ) → j < k + 1 → P j (get_or (set cs k v) j 0)
each_more P cs k v l here before j h =
    elim (cases_eq j k) as (λ _. P j (get_or (set cs k v) j 0)) [
      | inl e ↦ subst (λ n. P n (get_or (set cs k v) n 0)) (sym e) (subst (P k) (sym (get_or-set_same cs k v 0 l)) here)
      | inr n ↦ subst (P j) (sym (get_or-set_other cs k j v 0 n)) (before j (omega arith))
    ]

module _ {X : Type 0} where
  -- places so far are at most all records
  pub total_within : (cs : List ℕ) (qs : List (List X)) (k : ℕ) → ((j : ℕ) → j < k → get_or cs j 0 ≤ length (list_at qs j)) → total (take k cs) ≤ length (all_of qs)
  total_within cs qs zero h = omega arith
  total_within [] qs (suc k) h = omega arith
  total_within (c ∷ cs) [] (suc k) h = omega (arith, h 0 (omega arith), total_within cs [] k (λ j l. h (suc j) (omega arith)))
  total_within (c ∷ cs) (q ∷ qs) (suc k) h = omega (arith, h 0 (omega arith), length-append q (all_of qs), total_within cs qs k (λ j l. h (suc j) (omega arith)))

  pub within_each : (cs : List ℕ) (qs : List (List X)) (k : ℕ) → length cs ≡ length qs → length qs ≤ k → ((j : ℕ) → j < k → get_or cs j 0 ≤ length (list_at qs j)) → AreWithin cs qs
  within_each [] [] k l m h = tt
  within_each [] (q ∷ qs) k l m h = absurd (omega arith)
  within_each (c ∷ cs) [] k l m h = absurd (omega arith)
  within_each (c ∷ cs) (q ∷ qs) zero l m h = absurd (omega arith)
  within_each (c ∷ cs) (q ∷ qs) (suc k) l m h = (h 0 (omega arith), within_each cs qs k (omega arith) (omega arith) (λ j i. h (suc j) (omega arith)))

  pub all_more : (qs : List (List X)) (k : ℕ) → k < length qs → length (all_of (take (k + 1) qs)) ≡ length (all_of (take k qs)) + length (list_at qs k)
  all_more [] k l = absurd (omega arith)
  all_more (q ∷ qs) zero l = omega (arith, length-append q (all_of (take 0 qs)))
  all_more (q ∷ qs) (suc k) l =
      let e : length (all_of (take (suc k + 1) (q ∷ qs))) ≡ length (q ++ all_of (take (k + 1) qs)) = ap (λ n. length (all_of (take n (q ∷ qs)))) (let f : suc k + 1 ≡ suc (k + 1) = omega arith in f) in
      omega (arith, e, length-append q (all_of (take (k + 1) qs)), length-append q (all_of (take k qs)), all_more qs k (omega arith))

  -- the records of the first runs are some of all
  pub all_within : (qs : List (List X)) (k : ℕ) → length (all_of (take k qs)) ≤ length (all_of qs)
  all_within qs zero = omega arith
  all_within [] (suc k) = omega arith
  all_within (q ∷ qs) (suc k) = omega (arith, length-append q (all_of (take k qs)), length-append q (all_of qs), all_within qs k)
