-- The smallest record of a multiset, of a part that is known to be smallest, and of two multisets together.
use Rattle.std.proofs.Common.{◌≡◌, ℕ, Bool, true, false, cond, not, List, [], ◌∷◌, ◌++◌, length, take, drop, Option, Some, None, refl, sym, ap, ◌∙◌, subst, append-nil, inl, inr, arith, Ordering}
use Rattle.std.specs.Prelude.{count_by, IfSome}
use Rattle.std.specs.declared.cmp.Ordering.TheVariants.{Equal}
use Rattle.std.specs.List.{AllByRecursion as Each}
use Rattle.std.specs.Cmp.{IsTotalOrder}
use Rattle.std.proofs.lemmas.Bool.{cases_Bool}
use Rattle.ppq_heap.specs.ppq_record.Order.{is_before, Le, Rising, in_order}
use Rattle.ppq_heap.specs.ppq_record.Bag.{IsSameBag, first_of, without_front, least, ascending}
use Rattle.ppq_heap.proofs.ppq_record.Order.{front_is, in_order-same_bag, Rising-in_order, Each-same_bag, Each-weaker, Each-append, Le-refl, Le-trans, IsSameBag-length, count_by-cons, count_by-append}
use Rattle.ppq_heap.proofs.ppq_record.Fronts.{ranks, no_tie, ascending-same_bag}
use Rattle.ppq_queue.specs.Choice.{goes_first}

module _ {R : Type 0} {cmp : R → R → Ordering} (o : IsTotalOrder cmp) (same : (x y : R) → cmp x y ≡ Equal → x ≡ y) where
  -- a record that is not after any other is the smallest
  pub least_is : (x : R) (rest all : List R) → IsSameBag (x ∷ rest) all → Each (Le (is_before cmp) x) rest → least cmp all ≡ Some x
  least_is x rest all bag each = ap first_of (sym (front_is (is_before cmp) (ranks o) (no_tie o same) all (x ∷ []) rest (tt, tt) bag (each, tt)))

  from_order : (x : R) (up all : List R) → IsSameBag up all → Rising (is_before cmp) up → first_of (take 1 up) ≡ Some x → Each (Le (is_before cmp) x) all
  from_order x [] all bag rise e = cc
  from_order x (z ∷ zs) all bag rise e =
      let is : z ≡ x = cc in
      Each-same_bag (λ y. is_before cmp y x) (z ∷ zs) all bag (subst (λ (w : R). Each (Le (is_before cmp) w) (z ∷ zs)) is (Le-refl (is_before cmp) (ranks o) z, rise.0))

  -- no record is before the smallest
  pub least-le : (x : R) (all : List R) → least cmp all ≡ Some x → Each (Le (is_before cmp) x) all
  least-le x all e = from_order x (ascending cmp all) all (in_order-same_bag (is_before cmp) (ranks o) all) (Rising-in_order (is_before cmp) (ranks o) all) e

  none_left : (up all : List R) → IsSameBag up all → first_of (take 1 up) ≡ None → all ≡ []
  none_left [] [] bag e = refl
  none_left [] (y ∷ ys) bag e = absurd (omega (arith, IsSameBag-length [] (y ∷ ys) bag))
  none_left (z ∷ zs) all bag e = cc

  -- a multiset without a smallest record is empty
  pub least-none : (all : List R) → least cmp all ≡ None → all ≡ []
  least-none all e = none_left (ascending cmp all) all (in_order-same_bag (is_before cmp) (ranks o) all) e

  rest_of : (x : R) (rest up : List R) → IsSameBag up (x ∷ rest) → first_of (take 1 up) ≡ Some x → IsSameBag rest (drop 1 up)
  rest_of x rest [] bag e p = cc
  rest_of x rest (z ∷ zs) bag e p =
      let is : z ≡ x = cc in
      let head : ◌≡◌ {A = ℕ} (cond (p z) 1 0) (cond (p x) 1 0) = ap (λ (w : R). cond (p w) 1 0) is in
      omega (arith, head, bag p, count_by-cons p z zs, count_by-cons p x rest)

  -- what is left where the smallest record is taken
  pub without_least : (x : R) (rest all : List R) → least cmp all ≡ Some x → IsSameBag all (x ∷ rest) → IsSameBag rest (without_front cmp all 1)
  without_least x rest all e bag = rest_of x rest (ascending cmp all) (λ p. in_order-same_bag (is_before cmp) (ranks o) all p ∙ bag p) e

  after_all : (rest all : List R) → all ≡ [] → rest ≡ [] → IsSameBag rest (without_front cmp all 1)
  unfolding in_order
  after_all rest all e f p = ap (count_by p) f ∙ sym (ap (λ (l : List R). count_by p (drop 1 (ascending cmp l))) e)

  -- the same for an answer
  pub without_answer : (answer : Option R) (rest all : List R) → answer ≡ least cmp all → IfSome answer (λ x. IsSameBag all (x ∷ rest)) → (answer ≡ None → rest ≡ all) → IsSameBag rest (without_front cmp all 1)
  without_answer None rest all e some none =
      let empty = least-none all (sym e) in
      after_all rest all empty (none refl ∙ empty)
  without_answer (Some x) rest all e some none = without_least x rest all (sym e) some

  le_from : (x y : R) (ys : List R) → Le (is_before cmp) x y → Each (Le (is_before cmp) y) ys → Each (Le (is_before cmp) x) ys
  le_from x y ys h each = Each-weaker (Le (is_before cmp) y) (Le (is_before cmp) x) (λ z k. Le-trans (is_before cmp) (ranks o) x y z h k) ys each

  -- of two multisets, the one whose smallest record goes first has the smallest record of both
  first_is_least : (x : R) (xs ys : List R) → least cmp xs ≡ Some x → Each (Le (is_before cmp) x) ys → least cmp (xs ++ ys) ≡ Some x
  first_is_least x xs ys e each = by_order (ascending cmp xs) (in_order-same_bag (is_before cmp) (ranks o) xs) e
    where
      by_order : (up : List R) → IsSameBag up xs → first_of (take 1 up) ≡ Some x → least cmp (xs ++ ys) ≡ Some x
      by_order [] bag f = cc
      by_order (z ∷ zs) bag f =
          let is : z ≡ x = cc in
          let le = least-le x xs e in
          let tail : Each (Le (is_before cmp) x) zs = (Each-same_bag (λ y. is_before cmp y x) xs (z ∷ zs) (λ p. sym (bag p)) le).1 in
          least_is x (zs ++ ys) (xs ++ ys) (λ p. (let head : ◌≡◌ {A = ℕ} (cond (p z) 1 0) (cond (p x) 1 0) = ap (λ (w : R). cond (p w) 1 0) is in omega (arith, head, bag p, count_by-cons p z zs, count_by-cons p x (zs ++ ys), count_by-append p zs ys, count_by-append p xs ys))) (Each-append (Le (is_before cmp) x) zs ys tail each)

  pub least_of_empty : (l : List R) → length l ≡ 0 → least cmp l ≡ None
  unfolding in_order
  least_of_empty [] h = refl
  least_of_empty (z ∷ zs) h = absurd (omega arith)

  swap_bags : (xs ys : List R) → least cmp (xs ++ ys) ≡ least cmp (ys ++ xs)
  swap_bags xs ys = ap (λ (l : List R). first_of (take 1 l)) (ascending-same_bag o same (xs ++ ys) (ys ++ xs) (λ p. omega (arith, count_by-append p xs ys, count_by-append p ys xs)))

  none_with : (xs ys : List R) → least cmp ys ≡ None → least cmp (xs ++ ys) ≡ least cmp xs
  none_with xs ys e = ap (λ (l : List R). least cmp (xs ++ l)) (least-none ys e) ∙ ap (least cmp) (append-nil xs)

  -- the smallest record of two multisets is that of the one that goes first
  pub least_of_two : (xs ys : List R) (one other : Option R) (choice : Bool) → one ≡ least cmp xs → other ≡ least cmp ys → choice ≡ goes_first cmp one other → least cmp (xs ++ ys) ≡ cond choice one other
  least_of_two xs ys None other choice e f c =
      let empty = least-none xs (sym e) in
      subst (λ (b : Bool). least cmp (xs ++ ys) ≡ cond b None other) (sym c) (ap (λ (l : List R). least cmp (l ++ ys)) empty ∙ sym f)
  least_of_two xs ys (Some x) None choice e f c =
      subst (λ (b : Bool). least cmp (xs ++ ys) ≡ cond b (Some x) None) (sym c) (none_with xs ys (sym f) ∙ sym e)
  least_of_two xs ys (Some x) (Some y) choice e f c =
      elim (cases_Bool (is_before cmp y x)) as (λ _. least cmp (xs ++ ys) ≡ cond choice (Some x) (Some y)) [
        | inl t ↦
            let second : choice ≡ false = c ∙ ap not t in
            subst (λ (b : Bool). least cmp (xs ++ ys) ≡ cond b (Some x) (Some y)) (sym second) (swap_bags xs ys ∙ first_is_least y ys xs (sym f) (le_from y x xs ((ranks o).one_way y x t) (least-le x xs (sym e))))
        | inr t ↦
            let first : choice ≡ true = c ∙ ap not t in
            subst (λ (b : Bool). least cmp (xs ++ ys) ≡ cond b (Some x) (Some y)) (sym first) (first_is_least x xs ys (sym e) (le_from x y ys t (least-le y ys (sym f))))
      ]
