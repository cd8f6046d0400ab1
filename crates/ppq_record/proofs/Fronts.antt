-- Multisets and fronts by the order of a record.
use Rattle.std.proofs.Common.{◌≡◌, ◌+◌, ℕ, ◌-◌, ◌<◌, true, false, cond, List, [], ◌∷◌, length, get_or, add-one, suc, min, refl, sym, ap, ap₂, ◌∙◌, arith, Ordering, IsPermutation, IsSorted, true≢false, ◌++◌, take-append-drop}
use Rattle.std.specs.Prelude.{count_by}
use Rattle.std.specs.declared.cmp.Ordering.TheVariants.{Less, Equal, Greater}
use Rattle.std.specs.Ordering.{is_eq, is_lt, ordering_reverse}
use Rattle.std.specs.List.{AllByRecursion as Each}
use Rattle.std.specs.Cmp.{IsTotalOrder, IsStrictWeakOrder}
use Rattle.std.proofs.lemmas.List.Sorted.{sorted_far, ranks_by}
use Rattle.ppq_record.specs.Order.{is_before, Le, Ascends}
use Rattle.ppq_record.specs.Bag.{count, IsSameBag, IsFront, ascending, front, without_front}
use Rattle.ppq_record.proofs.Order.{same, count_by-same_test, counts_of_take, Rising-take, Rising-in_order, in_order-same_bag, same_counts, same_rising, IsSameBag-permutation}

-- the order of a record ranks
pub ranks : {R : Type 0} {cmp : R → R → Ordering} → IsTotalOrder cmp → IsStrictWeakOrder (is_before cmp)
ranks o = ranks_by o (λ z. z)

tied : (a b : Ordering) → a ≡ ordering_reverse b → is_lt a ≡ false → is_lt b ≡ false → a ≡ Equal
tied Less b e f g = absurd (true≢false f)
tied Equal b e f g = refl
tied Greater Less e f g = absurd (true≢false g)
tied Greater Equal e f g = cc
tied Greater Greater e f g = cc

-- of two records neither of which is before the other there is one
pub no_tie : {R : Type 0} {cmp : R → R → Ordering} → IsTotalOrder cmp → ((x y : R) → cmp x y ≡ Equal → x ≡ y) → (a b : R) → Le (is_before cmp) a b → Le (is_before cmp) b a → a ≡ b
no_tie {R} {cmp} o same_is a b h k = same_is a b (tied (cmp a b) (cmp b a) (o.antisymm a b) k h)

eq_by_tests : (a b : Ordering) → a ≡ ordering_reverse b → is_eq a ≡ cond (is_lt a) false (cond (is_lt b) false true)
eq_by_tests Less b e = refl
eq_by_tests Equal Less e = cc
eq_by_tests Equal Equal e = refl
eq_by_tests Equal Greater e = refl
eq_by_tests Greater Less e = refl
eq_by_tests Greater Equal e = cc
eq_by_tests Greater Greater e = cc

-- counting a record by its order and by the tests alone
pub count-same : {R : Type 0} {cmp : R → R → Ordering} → IsTotalOrder cmp → (xs : List R) (r : R) → count cmp xs r ≡ count_by (same (is_before cmp) r) xs
count-same {R} {cmp} o xs r = count_by-same_test (λ x. is_eq (cmp x r)) (same (is_before cmp) r) xs (λ x. eq_by_tests (cmp x r) (cmp r x) (o.antisymm x r))

-- the first k of the ascending list are a front
pub IsFront-front : {R : Type 0} {cmp : R → R → Ordering} → IsTotalOrder cmp → (bag : List R) (k : ℕ) → IsFront cmp bag k (front cmp bag k)
IsFront-front {R} {cmp} o bag k = record {
  ascends = Rising-take (is_before cmp) (ranks o) k (ascending cmp bag) (Rising-in_order (is_before cmp) (ranks o) bag);
  counts = λ r. count-same o (front cmp bag k) r ∙ counts_of_take (is_before cmp) (ranks o) r k (ascending cmp bag) (Rising-in_order (is_before cmp) (ranks o) bag) ∙ ap₂ (λ a b. min a (k - b)) (in_order-same_bag (is_before cmp) (ranks o) bag (same (is_before cmp) r) ∙ sym (count-same o bag r)) (in_order-same_bag (is_before cmp) (ranks o) bag (λ x. is_before cmp x r));
}

-- each front is that list
pub IsFront-is : {R : Type 0} {cmp : R → R → Ordering} → IsTotalOrder cmp → ((x y : R) → cmp x y ≡ Equal → x ≡ y) → (bag : List R) (k : ℕ) (out : List R) → IsFront cmp bag k out → out ≡ front cmp bag k
IsFront-is {R} {cmp} o same_is bag k out is =
    let the = IsFront-front o bag k in
    same_counts (is_before cmp) (ranks o) (no_tie o same_is) out (front cmp bag k) is.ascends the.ascends (λ r. sym (count-same o out r) ∙ is.counts r ∙ sym (the.counts r) ∙ count-same o (front cmp bag k) r)

-- multisets with the same counts are the same by every test
pub IsSameBag-counts : {R : Type 0} {cmp : R → R → Ordering} → IsTotalOrder cmp → ((x y : R) → cmp x y ≡ Equal → x ≡ y) → (one other : List R) → ((r : R) → count cmp one r ≡ count cmp other r) → IsSameBag one other
IsSameBag-counts {R} {cmp} o same_is one other e p =
    let lt = is_before cmp in
    let up : ascending cmp one ≡ ascending cmp other = same_counts lt (ranks o) (no_tie o same_is) (ascending cmp one) (ascending cmp other) (Rising-in_order lt (ranks o) one) (Rising-in_order lt (ranks o) other) (λ r. in_order-same_bag lt (ranks o) one (same lt r) ∙ sym (count-same o one r) ∙ e r ∙ count-same o other r ∙ sym (in_order-same_bag lt (ranks o) other (same lt r))) in
    sym (in_order-same_bag lt (ranks o) one p) ∙ ap (count_by p) up ∙ in_order-same_bag lt (ranks o) other p

-- equal multisets have one ascending list
pub ascending-same_bag : {R : Type 0} {cmp : R → R → Ordering} → IsTotalOrder cmp → ((x y : R) → cmp x y ≡ Equal → x ≡ y) → (one other : List R) → IsSameBag one other → ascending cmp one ≡ ascending cmp other
ascending-same_bag {R} {cmp} o same_is one other e =
    let lt = is_before cmp in
    same_rising lt (ranks o) (no_tie o same_is) (ascending cmp one) (ascending cmp other) (Rising-in_order lt (ranks o) one) (Rising-in_order lt (ranks o) other) (λ p. in_order-same_bag lt (ranks o) one p ∙ e p ∙ sym (in_order-same_bag lt (ranks o) other p))

-- an ascending list of a multiset is its ascending list
pub ascending_is : {R : Type 0} {cmp : R → R → Ordering} → IsTotalOrder cmp → ((x y : R) → cmp x y ≡ Equal → x ≡ y) → (bag out : List R) → Ascends cmp out → IsSameBag out bag → out ≡ ascending cmp bag
ascending_is {R} {cmp} o same_is bag out up e =
    let lt = is_before cmp in
    same_rising lt (ranks o) (no_tie o same_is) out (ascending cmp bag) up (Rising-in_order lt (ranks o) bag) (λ p. e p ∙ sym (in_order-same_bag lt (ranks o) bag p))

-- std's word for a sorted list says that it ascends
all_from : {R : Type 0} (P : R → Type 0) (xs : List R) → ((j : ℕ) (d : R) → j < length xs → P (get_or xs j d)) → Each P xs
all_from P [] each = tt
all_from P (x ∷ xs) each = (each 0 x (omega arith), all_from P xs (λ j d h. each (suc j) d (omega arith)))

pub Ascends-sorted : {R : Type 0} {cmp : R → R → Ordering} → IsTotalOrder cmp → (xs : List R) → IsSorted cmp xs → Ascends cmp xs
Ascends-sorted o [] up = tt
Ascends-sorted {R} {cmp} o (x ∷ xs) up = (
  all_from (Le (is_before cmp) x) xs (λ j d h. sorted_far (is_before cmp) (ranks o) (x ∷ xs) up 0 (suc j) d (omega arith) (omega arith)),
  Ascends-sorted o xs (λ k d low h. rw (add-one k) (rw (add-one (suc k)) at (up (suc k) d (omega arith) (omega arith)))),
)

-- what a sort leaves
pub sorted_is : {R : Type 0} {cmp : R → R → Ordering} → IsTotalOrder cmp → ((x y : R) → cmp x y ≡ Equal → x ≡ y) → (xs ys : List R) → IsPermutation xs ys → IsSorted cmp ys → ys ≡ ascending cmp xs
sorted_is o same_is xs ys moved up = ascending_is o same_is xs ys (Ascends-sorted o ys up) (λ p. sym (IsSameBag-permutation xs ys moved p))

-- neighbours in order make the whole list ascend
pub Ascends-adjacent : {R : Type 0} {cmp : R → R → Ordering} → IsTotalOrder cmp → (xs : List R) → ((k : ℕ) (d : R) → k + 1 < length xs → Le (is_before cmp) (get_or xs k d) (get_or xs (k + 1) d)) → Ascends cmp xs
Ascends-adjacent o xs each = Ascends-sorted o xs (λ k d low h. each k d h)

-- the front and the rest are the multiset
pub front-parts : {R : Type 0} {cmp : R → R → Ordering} → IsTotalOrder cmp → (bag : List R) (k : ℕ) → IsSameBag (front cmp bag k ++ without_front cmp bag k) bag
front-parts {R} {cmp} o bag k p = ap (count_by p) (take-append-drop k (ascending cmp bag)) ∙ in_order-same_bag (is_before cmp) (ranks o) bag p
