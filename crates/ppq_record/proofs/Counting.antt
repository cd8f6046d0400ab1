-- Fronts that are told by counting the records at hand.
use Rattle.std.proofs.Common.{◌≡◌, ℕ, ◌+◌, ◌-◌, ◌<◌, zero, suc, Bool, true, false, cond, List, [], ◌∷◌, length, get_or, min, refl, sym, ap, ◌∙◌, subst, inl, inr, arith, Ordering, true≢false}
use Rattle.std.specs.Prelude.{◌⊎◌, ◌↔◌, ◌&&◌, IsTrue, nat_eq}
use Rattle.std.specs.List.{list_all}
use Rattle.std.proofs.lemmas.Bool.Decides.{nat_tests}
use Rattle.std.specs.declared.cmp.Ordering.TheVariants.{Less, Equal, Greater}
use Rattle.std.specs.Ordering.{is_eq}
use Rattle.std.specs.List.{AllByRecursion as Each}
use Rattle.std.specs.Cmp.{IsTotalOrder}
use Rattle.std.proofs.lemmas.Bool.{cases_Bool}
use Rattle.ppq_record.specs.Order.{Le, Rising, Ascends}
use Rattle.ppq_record.specs.Bag.{count, size_below, IsCounted, counted_test, IsFront, front}
use Rattle.ppq_record.proofs.Order.{count_by-cons}
use Rattle.ppq_record.proofs.Fronts.{IsFront-front, IsFront-is}

equal_from_test : (a : Ordering) → is_eq a ≡ true → a ≡ Equal
equal_from_test Less e = absurd (true≢false (sym e))
equal_from_test Equal e = refl
equal_from_test Greater e = absurd (true≢false (sym e))

-- what holds of each record of a list holds of every record that it counts
pub counted_or_absent :
    {R : Type 0} {cmp : R → R → Ordering} → ((x y : R) → cmp x y ≡ Equal → x ≡ y)
    → (P : R → Type 0) (xs : List R) → Each P xs → (r : R) → (count cmp xs r ≡ 0) ⊎ P r
counted_or_absent same P [] each r = inl refl
counted_or_absent {R} {cmp} same P (x ∷ xs) each r =
    elim (cases_Bool (is_eq (cmp x r))) as (λ _. (count cmp (x ∷ xs) r ≡ 0) ⊎ P r) [
      | inl e ↦ inr (subst P (same x r (equal_from_test (cmp x r) e)) each.0)
      | inr e ↦
          elim (counted_or_absent same P xs each.1 r) as (λ _. (count cmp (x ∷ xs) r ≡ 0) ⊎ P r) [
            | inl n ↦ inl (let z : count cmp (x ∷ xs) r ≡ 0 + count cmp xs r = count_by-cons (λ y. is_eq (cmp y r)) x xs ∙ ap (λ b. cond b 1 0 + count cmp xs r) e in omega arith)
            | inr p ↦ inr p
          ]
    ]

none_of_none : (c o k b : ℕ) → o ≡ 0 → c ≡ 0 → o ≡ min c (k - b)
none_of_none c o k b e f = omega arith

-- counts that are right at the records at hand are right
pub counts_right :
    {R : Type 0} {cmp : R → R → Ordering} → ((x y : R) → cmp x y ≡ Equal → x ≡ y)
    → (bag : List R) (k : ℕ) (out : List R) → Each (IsCounted cmp bag k out) out → Each (IsCounted cmp bag k out) bag
    → (r : R) → IsCounted cmp bag k out r
counts_right {R} {cmp} same bag k out of_out of_bag r =
    elim (counted_or_absent same (IsCounted cmp bag k out) out of_out r) as (λ _. IsCounted cmp bag k out r) [
      | inr p ↦ p
      | inl e ↦
          elim (counted_or_absent same (IsCounted cmp bag k out) bag of_bag r) as (λ _. IsCounted cmp bag k out r) [
            | inr p ↦ p
            | inl f ↦ none_of_none (count cmp bag r) (count cmp out r) k (size_below cmp bag r) e f
          ]
    ]

each_of_all : {X : Type 0} (P : X → Type 0) (xs : List X) → ((x : X) → P x) → Each P xs
each_of_all P [] all = tt
each_of_all P (x ∷ xs) all = (all x, each_of_all P xs all)

-- the three tests say just that the list is the front
pub least_by_counts :
    {R : Type 0} {cmp : R → R → Ordering} → IsTotalOrder cmp → ((x y : R) → cmp x y ≡ Equal → x ≡ y) → (bag : List R) (k : ℕ) (out : List R)
    → (Ascends cmp out × Each (IsCounted cmp bag k out) out × Each (IsCounted cmp bag k out) bag) ↔ (out ≡ front cmp bag k)
least_by_counts {R} {cmp} o same bag k out = (
  (λ h. IsFront-is o same bag k out (record { ascends = h.0; counts = counts_right same bag k out h.1 h.2 })),
  (λ e.
      let is : IsFront cmp bag k out = subst (IsFront cmp bag k) (sym e) (IsFront-front o bag k) in
      (is.ascends, each_of_all (IsCounted cmp bag k out) out is.counts, each_of_all (IsCounted cmp bag k out) bag is.counts)),
)

nat_test : (a b : ℕ) → IsTrue (nat_eq a b) ↔ (a ≡ b)
nat_test a b = grind (arith, nat_tests)

both_tests : (a b : Bool) → IsTrue (a && b) ↔ (IsTrue a × IsTrue b)
both_tests true b = ((λ h. (refl, h)), (λ h. h.1))
both_tests false b = ((λ h. absurd (true≢false (sym h))), (λ h. h.0))

-- the tests of all of them
pub each_counted :
    {R : Type 0} (cmp : R → R → Ordering) (bag : List R) (k : ℕ) (out xs : List R)
    → IsTrue (list_all (counted_test cmp bag k out) xs) ↔ Each (IsCounted cmp bag k out) xs
each_counted cmp bag k out [] = ((λ h. tt), (λ h. refl))
each_counted cmp bag k out (x ∷ xs) =
    let one = nat_test (count cmp out x) (min (count cmp bag x) (k - size_below cmp bag x)) in
    let rest = each_counted cmp bag k out xs in
    let both = both_tests (counted_test cmp bag k out x) (list_all (counted_test cmp bag k out) xs) in
    ((λ h. (one.0 (both.0 h).0, rest.0 (both.0 h).1)), (λ h. both.1 (one.1 h.0, rest.1 h.1)))

-- a test that fails tells that the list is not the front
pub refuted : (a : Bool) (P Q : Type 0) → a ≡ false → (P → IsTrue a) → (Q → P) → IsTrue false ↔ Q
refuted a P Q e f g = ((λ h. absurd (true≢false (sym h))), (λ q. sym e ∙ f (g q)))

-- of an ascending list no item stands before the one before it
each_at : {X : Type 0} (P : X → Type 0) (xs : List X) (k : ℕ) (d : X) → Each P xs → k < length xs → P (get_or xs k d)
each_at P [] k d e h = absurd (omega arith)
each_at P (x ∷ xs) zero d e h = e.0
each_at P (x ∷ xs) (suc k) d e h = each_at P xs k d e.1 (omega arith)

pub rising_at : {X : Type 0} (lt : X → X → Bool) (xs : List X) (k : ℕ) (d : X) → Rising lt xs → suc k < length xs → Le lt (get_or xs k d) (get_or xs (suc k) d)
rising_at lt [] k d up h = absurd (omega arith)
rising_at lt (x ∷ xs) zero d up h = each_at (Le lt x) xs 0 d up.0 (omega arith)
rising_at lt (x ∷ xs) (suc k) d up h = rising_at lt xs k d up.1 (omega arith)
