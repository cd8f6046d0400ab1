-- How many records of an ascending list are not above one.
use Rattle.std.proofs.Common.{◌≡◌, inl, inr, ℕ, zero, suc, ◌+◌, ◌≤◌, Bool, true, false, not, cond, List, [], ◌∷◌, ◌++◌, length, take, drop, Some, refl, sym, ap, ◌∙◌, subst, arith, length-take, true≢false}
use Rattle.std.specs.Prelude.{count_by}
use Rattle.std.specs.List.{AllByRecursion as Each, slice_get}
use Rattle.std.specs.Cmp.{IsStrictWeakOrder}
use Rattle.std.proofs.lemmas.Bool.{cases_Bool}
use Rattle.std.proofs.lemmas.List.{drop_all}
use Rattle.ppq_block.specs.ppq_record.Order.{Le, Rising}
use Rattle.ppq_block.proofs.ppq_record.Order.{Each-weaker, Le-refl, Le-trans, count_by-cons, count_by-append}

abbrev one_if : Bool → ℕ
one_if b = cond b 1 0

module _ {X : Type 0} (lt : X → X → Bool) where
  -- the place where a search is: what is before it is not above u, and what is behind is
  pub record Found (u : X) (xs : List X) (low high : ℕ) : Type 0 where
    pub below : Each (λ x. lt u x ≡ false) (take low xs)
    pub beyond : Each (λ x. lt u x ≡ true) (drop high xs)

  -- nothing was looked at yet
  pub found_none : (u : X) (xs : List X) (n : ℕ) → length xs ≤ n → Found u xs 0 n
  found_none u xs n h = record { below = tt; beyond = subst (λ ys. Each (λ x. lt u x ≡ true) ys) (sym (drop_all n xs h)) tt }

module _ {X : Type 0} (lt : X → X → Bool) (o : IsStrictWeakOrder lt) where
  each_at : (P : X → Type 0) (xs : List X) (i : ℕ) (x : X) → slice_get xs i ≡ Some x → Each P xs → P x
  each_at P [] i x e a = absurd (cc)
  each_at P (y ∷ ys) zero x e a = let h : y ≡ x = cc in subst P h a.0
  each_at P (y ∷ ys) (suc i) x e a = each_at P ys i x e a.1

  -- those up to a place are not after the one there, which is not after those from there on
  rising_at : (xs : List X) (i : ℕ) (x : X) → Rising lt xs → slice_get xs i ≡ Some x → Each (λ y. Le lt y x) (take (suc i) xs) × Each (λ y. Le lt x y) (drop i xs)
  rising_at [] i x r e = absurd (cc)
  rising_at (y ∷ ys) zero x r e =
      let h : y ≡ x = cc in
      subst (λ z. Each (λ y. Le lt y z) (y ∷ []) × Each (λ y. Le lt z y) (y ∷ ys)) h ((Le-refl lt o y, tt), (Le-refl lt o y, r.0))
  rising_at (y ∷ ys) (suc i) x r e =
      let rest = rising_at ys i x r.1 e in
      ((each_at (Le lt y) ys i x e r.0, rest.0), rest.1)

  above : (u x z : X) → lt u x ≡ true → Le lt x z → lt u z ≡ true
  above u x z h k =
      elim (cases_Bool (lt u z)) as (λ _. lt u z ≡ true) [ inl t ↦ t | inr f ↦ absurd (true≢false (sym h ∙ Le-trans lt o x z u k f)) ]

  pub found_high : (u : X) (xs : List X) (low high i : ℕ) (x : X) → Rising lt xs → slice_get xs i ≡ Some x → lt u x ≡ true → Found lt u xs low high → Found lt u xs low i
  found_high u xs low high i x r e h f =
      record { below = f.below; beyond = Each-weaker (λ y. Le lt x y) (λ y. lt u y ≡ true) (λ y k. above u x y h k) (drop i xs) ((rising_at xs i x r e).1) }

  pub found_low : (u : X) (xs : List X) (low high i n : ℕ) (x : X) → n ≡ i + 1 → Rising lt xs → slice_get xs i ≡ Some x → lt u x ≡ false → Found lt u xs low high → Found lt u xs n high
  found_low u xs low high i n x next r e h f =
      let k : suc i ≡ n = omega arith in
      record { below = subst (λ n. Each (λ y. lt u y ≡ false) (take n xs)) k (Each-weaker (λ y. Le lt y x) (λ y. lt u y ≡ false) (λ y k. Le-trans lt o y x u k h) (take (suc i) xs) ((rising_at xs i x r e).0)); beyond = f.beyond }

  all_pass : (u : X) (xs : List X) → Each (λ x. lt u x ≡ false) xs → count_by (λ x. not (lt u x)) xs ≡ length xs
  all_pass u [] e = refl
  all_pass u (x ∷ xs) e =
      let here : one_if (not (lt u x)) ≡ 1 = ap (λ b. one_if (not b)) e.0 in
      let s : count_by (λ x. not (lt u x)) (x ∷ xs) ≡ suc (length xs) = omega (arith, count_by-cons (λ x. not (lt u x)) x xs, here, all_pass u xs e.1) in s

  none_passes : (u : X) (xs : List X) → Each (λ x. lt u x ≡ true) xs → count_by (λ x. not (lt u x)) xs ≡ 0
  none_passes u [] e = refl
  none_passes u (x ∷ xs) e =
      let here : one_if (not (lt u x)) ≡ 0 = ap (λ b. one_if (not b)) e.0 in
      omega (arith, count_by-cons (λ x. not (lt u x)) x xs, here, none_passes u xs e.1)

  pub found_count : (u : X) (xs : List X) (at : ℕ) → at ≤ length xs → Found lt u xs at at → at ≡ count_by (λ x. not (lt u x)) xs
  found_count u xs at within f =
      let whole : take at xs ++ drop at xs ≡ xs = parts at xs in
      let sum : count_by (λ x. not (lt u x)) xs ≡ count_by (λ x. not (lt u x)) (take at xs) + count_by (λ x. not (lt u x)) (drop at xs) = ap (count_by (λ x. not (lt u x))) (sym whole) ∙ count_by-append (λ x. not (lt u x)) (take at xs) (drop at xs) in
      omega (arith, sum, all_pass u (take at xs) f.below, none_passes u (drop at xs) f.beyond, length-take at xs)
    where
      parts : (n : ℕ) (xs : List X) → take n xs ++ drop n xs ≡ xs
      parts zero xs = refl
      parts (suc n) [] = refl
      parts (suc n) (x ∷ xs) = ap (λ ys. x ∷ ys) (parts n xs)
