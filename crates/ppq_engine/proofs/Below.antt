-- The smallest records below a limit, of a multiset that has others beside them which are not below it.
use Rattle.std.proofs.Common.{◌≡◌, ℕ, zero, suc, ◌+◌, ◌≤◌, Bool, true, false, cond, List, [], ◌∷◌, ◌++◌, length, take, drop, min, sym, ap, ◌∙◌, arith, inl, inr, take-append-drop}
use Rattle.std.specs.Prelude.{count_by}
use Rattle.std.specs.List.{AllByRecursion as Each}
use Rattle.std.specs.Cmp.{IsStrictWeakOrder}
use Rattle.std.proofs.lemmas.Bool.{cases_Bool}
use Rattle.std.proofs.lemmas.List.Sums.{count_by-le-length}
use Rattle.std.proofs.lemmas.List.{take-append-le, take-take, length-take}
use Rattle.ppq_script.specs.Words.{Words}
use Rattle.ppq_engine.proofs.Orders.{HasLaws}
use Rattle.ppq_script.specs.ppq_record.Order.{is_before, Le, Rising}
use Rattle.ppq_script.specs.ppq_record.Bag.{IsSameBag, ascending, front, without_front, first_of, size_below}
use Rattle.ppq_script.proofs.ppq_record.Order.{count_by-cons, count_by-append, none_pass, each_fails, Each-weaker, Rising-take, Rising-append, Rising-in_order, in_order-same_bag}
use Rattle.ppq_script.proofs.ppq_record.Fronts.{ranks, ascending_is, ascending-same_bag, front-parts}
use Rattle.ppq_load.specs.ppq_session.Fronts.{least_below, without_least_below}
use Rattle.ppq_engine.specs.Output.{limited_count}

abbrev number : Bool → ℕ
number b = cond b 1 0

-- of an ascending list the first are below a limit, as many as there are, and the others are not
module _ {X : Type 0} (lt : X → X → Bool) (o : IsStrictWeakOrder lt) (limit : X) where
  abbrev low : X → Bool
  low x = lt x limit

  none_low : (x : X) (xs : List X) → Rising lt (x ∷ xs) → low x ≡ false → count_by low (x ∷ xs) ≡ 0
  none_low x xs up h = none_pass low (x ∷ xs) (h, Each-weaker (Le lt x) (λ y. low y ≡ false) (λ y k. o.chain y x limit k h) xs up.0)

  one_low : (x : X) (xs : List X) → low x ≡ true → count_by low (x ∷ xs) ≡ 1 + count_by low xs
  one_low x xs h = let one : cond (low x) 1 0 ≡ 1 = ap (λ (b : Bool). number b) h in omega (arith, one, count_by-cons low x xs)

  first-low : (xs : List X) (n : ℕ) → Rising lt xs → n ≡ count_by low xs → Each (λ x. low x ≡ true) (take n xs)
  first-low [] zero up e = tt
  first-low [] (suc n) up e = tt
  first-low (x ∷ xs) zero up e = tt
  first-low (x ∷ xs) (suc n) up e =
      elim (cases_Bool (low x)) as (λ _. Each (λ y. low y ≡ true) (x ∷ take n xs)) [
        | inl h ↦ (h, first-low xs n up.1 (omega (arith, e, one_low x xs h)))
        | inr h ↦ absurd (omega (arith, e, none_low x xs up h))
      ]

  rest-not_low : (xs : List X) (n : ℕ) → Rising lt xs → n ≡ count_by low xs → Each (λ x. low x ≡ false) (drop n xs)
  rest-not_low [] zero up e = tt
  rest-not_low [] (suc n) up e = tt
  rest-not_low (x ∷ xs) zero up e = each_fails low (x ∷ xs) (sym e)
  rest-not_low (x ∷ xs) (suc n) up e =
      elim (cases_Bool (low x)) as (λ _. Each (λ y. low y ≡ false) (drop n xs)) [
        | inl h ↦ rest-not_low xs n up.1 (omega (arith, e, one_low x xs h))
        | inr h ↦ absurd (omega (arith, e, none_low x xs up h))
      ]

  -- what is below the limit is not after what is not
  in_front : (xs ys : List X) → Each (λ x. low x ≡ true) xs → Each (λ y. low y ≡ false) ys → Each (λ x. Each (Le lt x) ys) xs
  in_front xs ys h k = Each-weaker (λ x. low x ≡ true) (λ x. Each (Le lt x) ys) (λ x b. Each-weaker (λ y. low y ≡ false) (Le lt x) (λ y n. o.chain y limit x n (o.one_way x limit b)) ys k) xs h

module _ {R : Type 0} (w : Words R) (laws : HasLaws w) (limit : R) where
  abbrev below : R → Bool
  below x = is_before w.cmp x limit

  -- none of these records is below the limit
  abbrev pub NoneBelow : List R → Type 0
  NoneBelow added = Each (λ x. is_before w.cmp x limit ≡ false) added

  rises : (bag : List R) → Rising (is_before w.cmp) (ascending w.cmp bag)
  rises bag = Rising-in_order (is_before w.cmp) (ranks laws.order) bag

  same_order : (bag : List R) → IsSameBag (ascending w.cmp bag) bag
  same_order bag p = in_order-same_bag (is_before w.cmp) (ranks laws.order) bag p

  beside : (added left : List R) → NoneBelow added → let n = size_below w.cmp left limit in ascending w.cmp (added ++ left) ≡ take n (ascending w.cmp left) ++ ascending w.cmp (added ++ drop n (ascending w.cmp left))
  beside added left none =
      let lt = is_before w.cmp in
      let o = ranks laws.order in
      let n = size_below w.cmp left limit in
      let asc = ascending w.cmp left in
      let rest = added ++ drop n asc in
      let out = take n asc ++ ascending w.cmp rest in
      let counted : n ≡ count_by below asc = sym (same_order left below) in
      let high : count_by below (ascending w.cmp rest) ≡ 0 =
      same_order rest below ∙ omega (arith, count_by-append below added (drop n asc), none_pass below added none, none_pass below (drop n asc) (rest-not_low lt o limit asc n (rises left) counted)) in
      let up : Rising lt out =
      Rising-append lt o (take n asc) (ascending w.cmp rest) (Rising-take lt o n asc (rises left)) (rises rest)
      (in_front lt o limit (take n asc) (ascending w.cmp rest) (first-low lt o limit asc n (rises left) counted) (each_fails below (ascending w.cmp rest) high)) in
      let same : IsSameBag out (added ++ left) = λ p.
      omega (arith, count_by-append p (take n asc) (ascending w.cmp rest), same_order rest p, count_by-append p added (drop n asc), count_by-append p (take n asc) (drop n asc), ap (λ (xs : List R). count_by p xs) (take-append-drop n asc), same_order left p, count_by-append p added left) in
      sym (ascending_is laws.order laws.same (added ++ left) out up same)

  -- the front of such a multiset, up to the limit, is the front without the others
  pub front-beside : (bag added left : List R) (k : ℕ) → NoneBelow added → IsSameBag bag (added ++ left) → k ≤ size_below w.cmp left limit → front w.cmp bag k ≡ front w.cmp left k
  front-beside bag added left k none same h =
      let n = size_below w.cmp left limit in
      let asc = ascending w.cmp left in
      let rest = ascending w.cmp (added ++ drop n asc) in
      let fits : n ≤ length asc = omega (arith, count_by-le-length below asc, same_order left below) in
      let long : k ≤ length (take n asc) = omega (arith, length-take n asc) in
      ap (λ (xs : List R). take k xs) (ascending-same_bag laws.order laws.same bag (added ++ left) same ∙ beside added left none) ∙ take-append-le k (take n asc) rest long ∙ take-take k n asc h

  pub size-beside : (bag added left : List R) → NoneBelow added → IsSameBag bag (added ++ left) → size_below w.cmp bag limit ≡ size_below w.cmp left limit
  size-beside bag added left none same = omega (arith, same below, count_by-append below added left, none_pass below added none)

  -- the smallest record below the limit, and what it leaves
  pub least-beside : (bag added left : List R) → NoneBelow added → IsSameBag bag (added ++ left) → first_of (front w.cmp bag (limited_count w bag limit 1)) ≡ least_below w.cmp limit left
  least-beside bag added left none same =
      ap (λ (n : ℕ). first_of (front w.cmp bag (min 1 n))) (size-beside bag added left none same) ∙ ap (λ (xs : List R). first_of xs) (front-beside bag added left (min 1 (size_below w.cmp left limit)) none same (omega arith))

  pub left-beside : (bag added left : List R) → NoneBelow added → IsSameBag bag (added ++ left) → IsSameBag (without_front w.cmp bag (limited_count w bag limit 1)) (added ++ without_least_below w.cmp limit left)
  left-beside bag added left none same p =
      let k = min 1 (size_below w.cmp left limit) in
      let fewer : k ≤ size_below w.cmp left limit = omega arith in
      let here : count_by p (without_front w.cmp bag (limited_count w bag limit 1)) ≡ count_by p (without_front w.cmp bag k) = ap (λ (n : ℕ). count_by p (without_front w.cmp bag (min 1 n))) (size-beside bag added left none same) in
      let one : count_by p (front w.cmp bag k) ≡ count_by p (front w.cmp left k) = ap (λ (xs : List R). count_by p xs) (front-beside bag added left k none same fewer) in
      omega (arith, here, one, same p, front-parts laws.order bag k p, front-parts laws.order left k p, count_by-append p (front w.cmp bag k) (without_front w.cmp bag k), count_by-append p (front w.cmp left k) (without_front w.cmp left k), count_by-append p added left, count_by-append p added (without_front w.cmp left k))
