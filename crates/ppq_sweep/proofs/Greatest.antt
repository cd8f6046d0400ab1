-- The greatest of the weights of a multiset, and lists whose items are turned or left out.
use Rattle.std.proofs.Common.{◌≡◌, ℕ, zero, suc, ◌+◌, ◌<◌, ◌≤◌, Bool, false, cond, List, [], ◌∷◌, length, slice_index_or, max, refl, sym, ap, ap₂, inl, inr, ◌∙◌, arith}
use Rattle.std.specs.Prelude.{◌⊎◌, count_by, nat_lt, Option, Some, None, Any}
use Rattle.std.specs.List.{AllByRecursion as Each, filter_map, cons_option}
use Rattle.std.proofs.lemmas.Bool.{cases_Bool, ltb-true, ltb-false, le-ltb}
use Rattle.ppq_queue.specs.ppq_heap.ppq_record.Bag.{IsSameBag}
use Rattle.ppq_queue.proofs.ppq_heap.ppq_record.Order.{count_by-cons}
use Rattle.ppq_sweep.specs.Levels.{greatest}

-- the test of what an item is turned into, where it is not left out
abbrev pub passes : {Y : Type 0} → (Y → Bool) → Option Y → Bool
passes p None = false
passes p (Some y) = p y

-- the weight of what it is turned into
abbrev pub weight : {Y : Type 0} → (Y → ℕ) → Option Y → ℕ
weight w None = 0
weight w (Some y) = w y

module _ {X Y : Type 0} where
  pub count_by-filter_map : (p : Y → Bool) (g : X → Option Y) (xs : List X) → count_by p (filter_map g xs) ≡ count_by (λ x. passes p (g x)) xs
  count_by-filter_map p g [] = refl
  count_by-filter_map p g (x ∷ xs) =
      let rest : List Y = filter_map g xs in
      elim (g x) as (λ o. count_by p (cons_option o rest) ≡ cond (passes p o) 1 0 + count_by (λ x. passes p (g x)) xs) [
        | None ↦ omega (arith, count_by-filter_map p g xs)
        | Some y ↦ omega (arith, count_by-cons p y rest, count_by-filter_map p g xs)
      ]
      ∙ sym (count_by-cons (λ x. passes p (g x)) x xs)

  pub greatest-filter_map : (w : Y → ℕ) (g : X → Option Y) (xs : List X) → greatest w (filter_map g xs) ≡ greatest (λ x. weight w (g x)) xs
  greatest-filter_map w g [] = refl
  greatest-filter_map w g (x ∷ xs) =
      let rest : List Y = filter_map g xs in
      elim (g x) as (λ o. greatest w (cons_option o rest) ≡ max (weight w o) (greatest (λ x. weight w (g x)) xs)) [
        | None ↦ omega (arith, greatest-filter_map w g xs)
        | Some y ↦ omega (arith, greatest-filter_map w g xs)
      ]

  pub same-filter_map : (g : X → Option Y) (xs ys : List X) → IsSameBag xs ys → IsSameBag (filter_map g xs) (filter_map g ys)
  same-filter_map g xs ys h p = count_by-filter_map p g xs ∙ (h (λ x. passes p (g x)) ∙ sym (count_by-filter_map p g ys))

module _ {X : Type 0} where
  -- a number that no weight is above
  above_none : (w : X → ℕ) (k : ℕ) (xs : List X) → greatest w xs ≤ k → count_by (λ x. nat_lt k (w x)) xs ≡ 0
  above_none w k [] h = refl
  above_none w k (x ∷ xs) h =
      let e : nat_lt k (w x) ≡ false = le-ltb k (w x) (omega arith) in
      count_by-cons (λ x. nat_lt k (w x)) x xs ∙ ap₂ (λ b n. cond b 1 0 + n) e (above_none w k xs (omega arith))

  none_above : (w : X → ℕ) (k : ℕ) (xs : List X) → count_by (λ x. nat_lt k (w x)) xs ≡ 0 → greatest w xs ≤ k
  none_above w k [] h = omega arith
  none_above w k (x ∷ xs) h =
      let split = count_by-cons (λ x. nat_lt k (w x)) x xs in
      elim (cases_Bool (nat_lt k (w x))) as (λ _. max (w x) (greatest w xs) ≤ k) [
        | inl e ↦ let n : 1 + count_by (λ x. nat_lt k (w x)) xs ≡ 0 = ap (λ b. cond b 1 0 + count_by (λ x. nat_lt k (w x)) xs) (sym e) ∙ (sym split ∙ h) in absurd (omega arith)
        | inr e ↦ let n : 0 + count_by (λ x. nat_lt k (w x)) xs ≡ 0 = ap (λ b. cond b 1 0 + count_by (λ x. nat_lt k (w x)) xs) (sym e) ∙ (sym split ∙ h) in
            omega (arith, ltb-false k (w x) e, none_above w k xs (omega (arith, n)))
      ]

  le_of_same : (w : X → ℕ) (xs ys : List X) → IsSameBag xs ys → greatest w xs ≤ greatest w ys
  le_of_same w xs ys h = none_above w (greatest w ys) xs (h (λ x. nat_lt (greatest w ys) (w x)) ∙ above_none w (greatest w ys) ys (omega arith))

  -- equal multisets have one greatest weight
  pub greatest-same : (w : X → ℕ) (xs ys : List X) → IsSameBag xs ys → greatest w xs ≡ greatest w ys
  greatest-same w xs ys h = omega (arith, le_of_same w xs ys h, le_of_same w ys xs (λ p. sym (h p)))

  -- weights that agree on each item of a list
  pub greatest-weights : (P : X → Type 0) (v w : X → ℕ) (xs : List X) → Each P xs → ((x : X) → P x → v x ≡ w x) → greatest v xs ≡ greatest w xs
  greatest-weights P v w [] each agree = refl
  greatest-weights P v w (x ∷ xs) each agree = ap₂ (λ a b. max a b) (agree x each.0) (greatest-weights P v w xs each.1 agree)

  -- a bound of the weight of each item
  pub greatest-within : (P : X → Type 0) (w : X → ℕ) (k : ℕ) (xs : List X) → Each P xs → ((x : X) → P x → w x ≤ k) → greatest w xs ≤ k
  greatest-within P w k [] each low = omega arith
  greatest-within P w k (x ∷ xs) each low = omega (arith, low x each.0, greatest-within P w k xs each.1 low)

  -- two tests of which each item passes as many as of a third
  pub count_by-sum : (P : X → Type 0) (a b c : X → Bool) (xs : List X) → Each P xs → ((x : X) → P x → cond (a x) 1 0 + cond (b x) 1 0 ≡ cond (c x) 1 0) → count_by a xs + count_by b xs ≡ count_by c xs
  count_by-sum P a b c [] each sum = refl
  count_by-sum P a b c (x ∷ xs) each sum = omega (arith, count_by-cons a x xs, count_by-cons b x xs, count_by-cons c x xs, sum x each.0, count_by-sum P a b c xs each.1 sum)

  -- each weight is within a bound of the greatest, for each of several weights
  pub each_within : {V : Type 0} (w : V → X → ℕ) (n : V → ℕ) (xs : List X) → ((v : V) → greatest (w v) xs ≤ n v) → Each (λ x. (v : V) → w v x ≤ n v) xs
  each_within w n [] low = tt
  each_within w n (x ∷ xs) low = (λ v. omega (arith, low v), each_within w n xs (λ v. omega (arith, low v)))

  -- the greatest weight is that of an item, if it is not 0
  pub greatest-reached : (w : X → ℕ) (n : ℕ) (xs : List X) → n ≡ greatest w xs → (n ≡ 0) ⊎ Any (λ x. (0 < w x) × (w x ≡ n)) xs
  greatest-reached w n [] is = inl is
  greatest-reached w n (x ∷ xs) is =
      elim (cases_Bool (nat_lt (greatest w xs) (w x))) as (λ _. (n ≡ 0) ⊎ Any (λ x. (0 < w x) × (w x ≡ n)) (x ∷ xs)) [
        | inl t ↦ (let more : greatest w xs < w x = ltb-true (greatest w xs) (w x) t in inr (0, x, omega arith, refl, (omega arith, omega (arith, is, more))))
        | inr f ↦ (let less : w x ≤ greatest w xs = ltb-false (greatest w xs) (w x) f in
            elim (greatest-reached w n xs (omega (arith, is, less))) as (λ _. (n ≡ 0) ⊎ Any (λ x. (0 < w x) × (w x ≡ n)) (x ∷ xs)) [
              | inl none ↦ inl none
              | inr one ↦ inr (suc one.0, one.1, omega (arith, one.2), one.3, one.4)
            ])
      ]

  -- an item of a list has at most the greatest weight
  pub greatest-at : (w : X → ℕ) (xs : List X) (k : ℕ) (x : X) → k < length xs → slice_index_or xs k x ≡ x → w x ≤ greatest w xs
  greatest-at w [] k x within is = absurd (omega (arith, within))
  greatest-at w (y ∷ ys) zero x within is = let same : w y ≡ w x = ap w is in omega (arith, same)
  greatest-at w (y ∷ ys) (suc k) x within is = omega (arith, greatest-at w ys k x (omega (arith, within)) is)
