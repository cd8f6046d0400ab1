-- The smallest record of a multiset that is below a limit, also where records that are not below it are added.
use Rattle.std.proofs.Common.{◌≡◌, ℕ, zero, suc, Bool, true, cond, List, [], ◌∷◌, ◌++◌, length, take, drop, min, Option, Some, None, refl, sym, ap, ap₂, ◌∙◌, subst, arith, Ordering, ◌<◌, false, inl, inr}
use Rattle.std.specs.Prelude.{count_by, ◌↔◌, IsNone}
use Rattle.std.specs.declared.cmp.Ordering.TheVariants.{Equal}
use Rattle.std.specs.Cmp.{IsTotalOrder}
use Rattle.ppq_pass.specs.ppq_record.Order.{is_before, Le, Ascends}
use Rattle.ppq_pass.specs.ppq_record.Bag.{IsSameBag, first_of, least, ascending, size_below, front}
use Rattle.ppq_pass.proofs.ppq_record.Order.{none_pass, Each-append, count_by-cons, in_order-same_bag, front_is, Rising-in_order, Each-weaker, Le-trans, count_by-append}
use Rattle.ppq_pass.proofs.ppq_record.Fronts.{ranks, ascending-same_bag, no_tie, front-parts}
use Rattle.ppq_pass.specs.ppq_fetch.Taking.{NoneAfter, AllBelow, NoneBelow}
use Rattle.ppq_queue.proofs.Least.{least_is, least-none, without_least}
use Rattle.ppq_session.specs.Fronts.{least_below, without_least_below, StandBack}
use Rattle.std.specs.List.{AllByRecursion as Each}
use Rattle.std.proofs.lemmas.Bool.{cases_Bool}

module _ {R : Type 0} {cmp : R → R → Ordering} (o : IsTotalOrder cmp) (same : (x y : R) → cmp x y ≡ Equal → x ≡ y) (limit : R) where
  -- equal multisets have one such record, and one rest
  pub least_below-same : (a b : List R) → IsSameBag a b → least_below cmp limit a ≡ least_below cmp limit b
  least_below-same a b s = ap₂ (λ (k : ℕ) (l : List R). first_of (take (min 1 k) l)) (s (λ x. is_before cmp x limit)) (ascending-same_bag o same a b s)

  pub without_below-same : (a b : List R) → IsSameBag a b → without_least_below cmp limit a ≡ without_least_below cmp limit b
  without_below-same a b s = ap₂ (λ (k : ℕ) (l : List R). drop (min 1 k) l) (s (λ x. is_before cmp x limit)) (ascending-same_bag o same a b s)

  none_of_empty : (l : List R) → l ≡ [] → size_below cmp l limit ≡ 0
  none_of_empty l e = ap (λ (x : List R). size_below cmp x limit) e

  is_none : (one : Option R) → one ≡ None → IsNone one
  is_none one e = subst (λ (r : Option R). IsNone r) (sym e) refl

  not_none : (one : Option R) → IsNone one → one ≡ None
  not_none None h = refl
  not_none (Some x) h = cc

  -- there is none if and only if no record is below the limit
  pub least_below-none : (bag : List R) → IsNone (least_below cmp limit bag) ↔ (size_below cmp bag limit ≡ 0)
  least_below-none bag = (by_size (size_below cmp bag limit) refl, λ z. is_none (least_below cmp limit bag) (ap (λ k. first_of (take (min 1 k) (ascending cmp bag))) z))
    where
      by_size : (k : ℕ) → size_below cmp bag limit ≡ k → IsNone (first_of (take (min 1 (size_below cmp bag limit)) (ascending cmp bag))) → size_below cmp bag limit ≡ 0
      by_size zero e none = e
      by_size (suc k) e none =
          let one : min 1 (size_below cmp bag limit) ≡ 1 = omega (arith, e) in
          none_of_empty bag (least-none o same bag (sym (ap (λ m. first_of (take m (ascending cmp bag))) one) ∙ not_none (least_below cmp limit bag) none))

  some_below : (x : R) (xs : List R) → is_before cmp x limit ≡ true → min 1 (size_below cmp (x ∷ xs) limit) ≡ 1
  some_below x xs low =
      let p : R → Bool = λ y. is_before cmp y limit in
      let head : ◌≡◌ {A = ℕ} (cond (p x) 1 0) 1 = ap (λ b. cond b 1 0) low in
      omega (arith, count_by-cons p x xs, head)

  first_least : (x : R) (xs runs : List R) → Ascends cmp (x ∷ xs) → NoneAfter cmp (x ∷ xs) runs → least cmp (x ∷ (xs ++ runs)) ≡ Some x
  first_least x xs runs up order = least_is o same x (xs ++ runs) (x ∷ (xs ++ runs)) (λ p. refl) (Each-append (Le (is_before cmp) x) xs runs up.0 order.0)

  -- the first record of an extract buffer that is ready
  pub ready_first : (e runs : List R) → Ascends cmp e → NoneAfter cmp e runs → AllBelow cmp (Some limit) e → (length e ≡ 0 → NoneBelow cmp (Some limit) (e ++ runs)) → first_of e ≡ least_below cmp limit (e ++ runs)
  ready_first [] runs up order under ready =
      let none : size_below cmp runs limit ≡ 0 = none_pass (λ x. is_before cmp x limit) runs (ready refl) in
      sym (ap (λ k. first_of (take (min 1 k) (ascending cmp runs))) none)
  ready_first (x ∷ xs) runs up order under ready =
      sym (ap (λ k. first_of (take k (ascending cmp (x ∷ (xs ++ runs))))) (some_below x (xs ++ runs) under.0) ∙ first_least x xs runs up order)

  -- what is left without it
  pub ready_rest : (e runs : List R) → Ascends cmp e → NoneAfter cmp e runs → AllBelow cmp (Some limit) e → (length e ≡ 0 → NoneBelow cmp (Some limit) (e ++ runs)) → IsSameBag (drop 1 e ++ runs) (without_least_below cmp limit (e ++ runs))
  ready_rest [] runs up order under ready p =
      let none : size_below cmp runs limit ≡ 0 = none_pass (λ x. is_before cmp x limit) runs (ready refl) in
      sym (ap (λ k. count_by p (drop (min 1 k) (ascending cmp runs))) none ∙ in_order-same_bag (is_before cmp) (ranks o) runs p)
  ready_rest (x ∷ xs) runs up order under ready p =
      let one = some_below x (xs ++ runs) under.0 in
      without_least o same x (xs ++ runs) (x ∷ (xs ++ runs)) (first_least x xs runs up order) (λ q. refl) p ∙ sym (ap (λ k. count_by p (drop k (ascending cmp (x ∷ (xs ++ runs))))) one)

module _ {R : Type 0} {cmp : R → R → Ordering} (o : IsTotalOrder cmp) (same : (x y : R) → cmp x y ≡ Equal → x ≡ y) (limit : R) where
  -- as many are below the limit
  size_below-high : (bag others : List R) → NoneBelow cmp (Some limit) others → size_below cmp (bag ++ others) limit ≡ size_below cmp bag limit
  size_below-high bag others high = omega (arith, count_by-append (λ x. is_before cmp x limit) bag others, none_pass (λ x. is_before cmp x limit) others high)

  -- the first record of a multiset is the first of all, if it is below the limit
  front-first : (x : R) (rest bag others : List R) → IsSameBag (x ∷ rest) bag → Each (Le (is_before cmp) x) rest → Each (Le (is_before cmp) x) others → front cmp (bag ++ others) 1 ≡ front cmp bag 1
  front-first x rest bag others is each high =
      let lt = is_before cmp in
      let all : IsSameBag (x ∷ (rest ++ others)) (bag ++ others) = λ p. omega (arith, is p, count_by-cons p x rest, count_by-cons p x (rest ++ others), count_by-append p rest others, count_by-append p bag others) in
      sym (front_is lt (ranks o) (no_tie o same) (bag ++ others) (x ∷ []) (rest ++ others) (tt, tt) all (Each-append (Le lt x) rest others each high, tt))
      ∙ front_is lt (ranks o) (no_tie o same) bag (x ∷ []) rest (tt, tt) is (each, tt)

  front-up : (up bag others : List R) → IsSameBag up bag → Ascends cmp up → NoneBelow cmp (Some limit) others → 0 < size_below cmp bag limit → front cmp (bag ++ others) 1 ≡ front cmp bag 1
  front-up [] bag others is rise high some = absurd (omega (arith, is (λ x. is_before cmp x limit), some))
  front-up (x ∷ rest) bag others is rise high some =
      let lt = is_before cmp in
      elim (cases_Bool (lt x limit)) as (λ _. front cmp (bag ++ others) 1 ≡ front cmp bag 1) [
        | inl low ↦ front-first x rest bag others is rise.0 (Each-weaker (λ y. lt y limit ≡ false) (Le lt x) (λ y h. Le-trans lt (ranks o) x limit y ((ranks o).one_way x limit low) h) others high)
        | inr not ↦
            let none : size_below cmp (x ∷ rest) limit ≡ 0 = none_pass (λ y. lt y limit) (x ∷ rest) (not, Each-weaker (Le lt x) (λ y. lt y limit ≡ false) (λ y h. (ranks o).chain y x limit h not) rest rise.0) in
            absurd (omega (arith, is (λ y. lt y limit), none, some))
      ]

  -- the smallest record below the limit is that of the multiset
  front-high : (bag others : List R) (k : ℕ) → size_below cmp bag limit ≡ k → NoneBelow cmp (Some limit) others → front cmp (bag ++ others) (min 1 k) ≡ front cmp bag (min 1 k)
  front-high bag others zero e high = refl
  front-high bag others (suc k) e high =
      let one : min 1 (suc k) ≡ 1 = omega arith in
      let lt = is_before cmp in
      ap (front cmp (bag ++ others)) one
      ∙ front-up (ascending cmp bag) bag others (in_order-same_bag lt (ranks o) bag) (Rising-in_order lt (ranks o) bag) high (omega (arith, e))
      ∙ sym (ap (front cmp bag) one)

  pub stand_back : (bag others : List R) → NoneBelow cmp (Some limit) others → StandBack cmp limit bag others
  stand_back bag others high =
      let k = size_below cmp bag limit in
      let size = size_below-high bag others high in
      let taken : front cmp (bag ++ others) (min 1 (size_below cmp (bag ++ others) limit)) ≡ front cmp bag (min 1 k) =
      ap (λ n. front cmp (bag ++ others) (min 1 n)) size ∙ front-high bag others k refl high in
      record {
        least = ap first_of taken;
        left = λ p.
            let all = front-parts o (bag ++ others) (min 1 (size_below cmp (bag ++ others) limit)) p in
            let own = front-parts o bag (min 1 k) p in
            omega (
              arith,
              all,
              own,
              ap (count_by p) taken,
              count_by-append p bag others,
              count_by-append p (front cmp (bag ++ others) (min 1 (size_below cmp (bag ++ others) limit))) (without_least_below cmp limit (bag ++ others)),
              count_by-append p (front cmp bag (min 1 k)) (without_least_below cmp limit bag),
              count_by-append p (without_least_below cmp limit bag) others,
            );
        size = size;
      }
