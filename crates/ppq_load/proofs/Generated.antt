-- Generated records: how many they are, and what is left behind some of them.
use Rattle.std.proofs.Common.{◌≡◌, ℕ, zero, suc, ◌+◌, ◌-◌, List, ◌∷◌, length, take, drop, min, refl, sym, ap, ap₂, ◌∙◌, subst, arith}
use Rattle.ppq_record.specs.Given.{next_seed}
use Rattle.ppq_load.specs.Given.{seed_after, made_fields, generated_from_by}

module _ {R : Type 0} (count : ℕ) (of_fields : List ℕ → R) (seed : ℕ) where
  pub length-generated : (x i n : ℕ) → length (generated_from_by count of_fields seed x i n) ≡ n
  length-generated x i zero = refl
  length-generated x i (suc n) = ap suc (length-generated (next_seed x) (i + 1) n)

  -- the first k
  generated-take : (x i n k : ℕ) → take k (generated_from_by count of_fields seed x i n) ≡ generated_from_by count of_fields seed x i (min k n)
  generated-take x i n zero = let e : zero ≡ min zero n = omega arith in ap (generated_from_by count of_fields seed x i) e
  generated-take x i zero (suc k) = let e : zero ≡ min (suc k) zero = omega arith in ap (generated_from_by count of_fields seed x i) e
  generated-take x i (suc n) (suc k) =
      let e : suc (min k n) ≡ min (suc k) (suc n) = omega arith in
      let head : R = of_fields (made_fields count (next_seed x) i seed) in
      ap (λ (xs : List R). head ∷ xs) (generated-take (next_seed x) (i + 1) n k) ∙ ap (generated_from_by count of_fields seed x i) e

  -- those behind the first k
  generated-drop : (x i n k : ℕ) → drop k (generated_from_by count of_fields seed x i n) ≡ generated_from_by count of_fields seed (seed_after x (min k n)) (i + min k n) (n - min k n)
  generated-drop x i n zero =
      let none : zero ≡ min zero n = omega arith in
      let Is : ℕ → Type 0 = λ m. generated_from_by count of_fields seed x i n ≡ generated_from_by count of_fields seed (seed_after x m) (i + m) (n - m) in
      let from : i ≡ i + zero = omega arith in
      let left : n ≡ n - zero = omega arith in
      subst Is none (ap₂ (generated_from_by count of_fields seed x) from left)
  generated-drop x i zero (suc k) =
      let none : zero ≡ min (suc k) zero = omega arith in
      let Is : ℕ → Type 0 = λ m. generated_from_by count of_fields seed x i zero ≡ generated_from_by count of_fields seed (seed_after x m) (i + m) (zero - m) in
      let from : i ≡ i + zero = omega arith in
      subst Is none (ap (λ j. generated_from_by count of_fields seed x j zero) from)
  generated-drop x i (suc n) (suc k) =
      let more : suc (min k n) ≡ min (suc k) (suc n) = omega arith in
      let m = min k n in
      let Is : ℕ → Type 0 = λ j. drop k (generated_from_by count of_fields seed (next_seed x) (i + 1) n) ≡ generated_from_by count of_fields seed (seed_after x j) (i + j) (suc n - j) in
      let from : i + 1 + m ≡ i + suc m = omega arith in
      let left : n - m ≡ suc n - suc m = omega arith in
      subst Is more (generated-drop (next_seed x) (i + 1) n k ∙ ap₂ (generated_from_by count of_fields seed (seed_after (next_seed x) m)) from left)

  -- at most k of those behind the first `from`
  pub generated-part :
      (x i n from k key number left : ℕ) → key ≡ seed_after x (min from n) → number ≡ i + min from n → left ≡ min k (n - min from n)
      → generated_from_by count of_fields seed key number left ≡ take k (drop from (generated_from_by count of_fields seed x i n))
  generated-part x i n from k key number left is at few =
      ap₂ (λ a b. generated_from_by count of_fields seed a b left) is at ∙ ap (generated_from_by count of_fields seed (seed_after x (min from n)) (i + min from n)) few ∙ sym (generated-take (seed_after x (min from n)) (i + min from n) (n - min from n) k)
      ∙ ap (take k) (sym (generated-drop x i n from))
