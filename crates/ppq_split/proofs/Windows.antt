-- What the records of one run that ascends tell of how many are in front of a record.
use Rattle.std.proofs.Common.{◌≡◌, ℕ, zero, suc, ◌+◌, ◌<◌, ◌≤◌, Bool, true, false, cond, not, List, [], ◌∷◌, length, get_or, refl, sym, ap, subst, inl, inr, ◌∙◌, arith, true≢false}
use Rattle.std.specs.Prelude.{count_by, slice_get, Some}
use Rattle.std.specs.List.{AllByRecursion as Each}
use Rattle.std.specs.Cmp.{IsStrictWeakOrder}
use Rattle.std.proofs.lemmas.Bool.{cases_Bool, cases_lt}
use Rattle.std.proofs.lemmas.Option.{slice_get_within, get_or_from_slice_get}
use Rattle.ppq_record.specs.Order.{Le, Rising}
use Rattle.ppq_record.proofs.Order.{count_by-cons, none_pass, Each-weaker}
use Rattle.ppq_split.specs.Edge.{passes, IsWindow}

count-yes : {X : Type 0} (P : X → Bool) (x : X) (xs : List X) → P x ≡ true → count_by P (x ∷ xs) ≡ 1 + count_by P xs
count-yes P x xs e = count_by-cons P x xs ∙ ap (λ b. cond b 1 0 + count_by P xs) e

count-no : {X : Type 0} (P : X → Bool) (x : X) (xs : List X) → P x ≡ false → count_by P (x ∷ xs) ≡ 0 + count_by P xs
count-no P x xs e = count_by-cons P x xs ∙ ap (λ b. cond b 1 0 + count_by P xs) e

pub count-within : {X : Type 0} (P : X → Bool) (xs : List X) → count_by P xs ≤ length xs
count-within P [] = omega arith
count-within P (x ∷ xs) =
    elim (cases_Bool (P x)) as (λ _. count_by P (x ∷ xs) ≤ length (x ∷ xs)) [
      | inl e ↦ omega (arith, count-within P xs, count-yes P x xs e)
      | inr e ↦ omega (arith, count-within P xs, count-no P x xs e)
    ]

pub un_not : (b : Bool) → not b ≡ true → b ≡ false
un_not true h = absurd (true≢false (sym h))
un_not false h = refl

pub un_not_false : (b : Bool) → not b ≡ false → b ≡ true
un_not_false true h = refl
un_not_false false h = absurd (true≢false h)

pub at_get : {X : Type 0} (q : List X) (n : ℕ) (y d : X) → slice_get q n ≡ Some y → (get_or q n d ≡ y) × (n < length q)
at_get q n y d e = (get_or_from_slice_get q n y d e, slice_get_within q n y e)

-- a test that fails above a record where it fails
module _ {X : Type 0} (lt : X → X → Bool) (P : X → Bool) (down : (y z : X) → Le lt y z → P y ≡ false → P z ≡ false) where
  none_after : (y : X) (xs : List X) → Each (Le lt y) xs → P y ≡ false → count_by P xs ≡ 0
  none_after y xs e h = none_pass P xs (Each-weaker (Le lt y) (λ z. P z ≡ false) (λ z l. down y z l h) xs e)

  pub passes_before : (xs : List X) → Rising lt xs → (a : ℕ) (d : X) → a < count_by P xs → P (get_or xs a d) ≡ true
  passes_before [] r a d h = absurd (omega arith)
  passes_before (x ∷ xs) r a d h =
      elim (cases_Bool (P x)) as (λ _. P (get_or (x ∷ xs) a d) ≡ true) [
        | inl e ↦
            let t = count-yes P x xs e in
            let Q : ℕ → Type 0 = λ a. a < count_by P (x ∷ xs) → P (get_or (x ∷ xs) a d) ≡ true in
            let all : (a : ℕ) → Q a = λ a. elim a as Q [ zero ↦ (λ _. e) | suc a ↦ (λ l. passes_before xs r.1 a d (omega arith)) ] in
            all a h
        | inr e ↦
            let t = count-no P x xs e in
            absurd (let z = none_after x xs r.0 e in let k : ⊥ = omega arith in k)
      ]

  pub fails_after : (xs : List X) → Rising lt xs → (b : ℕ) (d : X) → count_by P xs ≤ b → b < length xs → P (get_or xs b d) ≡ false
  fails_after [] r b d h l = absurd (omega arith)
  fails_after (x ∷ xs) r b d h l =
      elim (cases_Bool (P x)) as (λ _. P (get_or (x ∷ xs) b d) ≡ false) [
        | inl e ↦
            let t = count-yes P x xs e in
            let Q : ℕ → Type 0 = λ b. count_by P (x ∷ xs) ≤ b → b < length (x ∷ xs) → P (get_or (x ∷ xs) b d) ≡ false in
            let all : (b : ℕ) → Q b = λ b. elim b as Q [ zero ↦ (λ m n. absurd (omega arith)) | suc b ↦ (λ m n. fails_after xs r.1 b d (omega arith) (omega arith)) ] in
            all b h l
        | inr e ↦
            let Q : ℕ → Type 0 = λ b. b < length (x ∷ xs) → P (get_or (x ∷ xs) b d) ≡ false in
            let all : (b : ℕ) → Q b = λ b. elim b as Q [ zero ↦ (λ n. e) | suc b ↦ (λ n. fails_after xs r.1 b d (omega (arith, none_after x xs r.0 e)) (omega arith)) ] in
            all b l
      ]

module _ {X : Type 0} (lt : X → X → Bool) (o : IsStrictWeakOrder lt) (x : X) where
  pub passes_down : (is_lower : Bool) (y z : X) → Le lt y z → passes lt x is_lower y ≡ false → passes lt x is_lower z ≡ false
  passes_down true y z l h =
      elim (cases_Bool (lt x z)) as (λ _. not (lt x z) ≡ false) [
        | inl e ↦ rw e refl
        | inr e ↦ (let k : lt x y ≡ false = o.chain x z y e l in absurd (true≢false (subst (λ b. not b ≡ false) k h)))
      ]
  passes_down false y z l h = o.chain z y x l h

  -- what a look at a record tells of the count
  pub count_more : (is_lower : Bool) (q : List X) (n : ℕ) (y : X) → Rising lt q → slice_get q n ≡ Some y → passes lt x is_lower y ≡ true → n < count_by (passes lt x is_lower) q
  count_more is_lower q n y r e h =
      let g = at_get q n y y e in
      elim (cases_lt n (count_by (passes lt x is_lower) q)) as (λ _. n < count_by (passes lt x is_lower) q) [
        | inl m ↦ m
        | inr m ↦ absurd (true≢false (sym h ∙ (sym (ap (passes lt x is_lower) g.0) ∙ fails_after lt (passes lt x is_lower) (passes_down is_lower) q r n y m g.1)))
      ]

  pub count_fewer : (is_lower : Bool) (q : List X) (n : ℕ) (y : X) → Rising lt q → slice_get q n ≡ Some y → passes lt x is_lower y ≡ false → count_by (passes lt x is_lower) q ≤ n
  count_fewer is_lower q n y r e h =
      let g = at_get q n y y e in
      elim (cases_lt n (count_by (passes lt x is_lower) q)) as (λ _. count_by (passes lt x is_lower) q ≤ n) [
        | inr m ↦ m
        | inl m ↦ absurd (true≢false (sym (passes_before lt (passes lt x is_lower) (passes_down is_lower) q r n y m) ∙ (ap (passes lt x is_lower) g.0 ∙ h)))
      ]

  pub window_all : (is_lower : Bool) (q : List X) (n : ℕ) → n ≡ length q → IsWindow lt x is_lower q 0 n
  window_all is_lower q n e = record { order = omega arith; within = omega arith; counts = λ r. (omega arith, omega (arith, count-within (passes lt x is_lower) q)) }

  pub window_up : (is_lower : Bool) (q : List X) (low high n : ℕ) (y : X) → IsWindow lt x is_lower q low high → n < high → slice_get q n ≡ Some y → passes lt x is_lower y ≡ true → IsWindow lt x is_lower q (n + 1) high
  window_up is_lower q low high n y w l e h = record {
    order = omega arith;
    within = w.within;
    counts = λ r. (omega (arith, count_more is_lower q n y r e h), (w.counts r).1);
  }

  pub window_down : (is_lower : Bool) (q : List X) (low high n : ℕ) (y : X) → IsWindow lt x is_lower q low high → low ≤ n → n < high → slice_get q n ≡ Some y → passes lt x is_lower y ≡ false → IsWindow lt x is_lower q low n
  window_down is_lower q low high n y w m l e h =
      let k = w.within in
      record {
        order = m;
        within = omega arith;
        counts = λ r. ((w.counts r).0, count_fewer is_lower q n y r e h);
      }
