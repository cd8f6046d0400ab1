-- Names of options.
use Rattle.std.proofs.Common.{◌≡◌, ℕ, zero, suc, ◌<◌, Bool, true, not, cond, ◌&&◌, ◌==◌, refl, sym, ap, ap₂, arith, List, [], ◌∷◌, ◌++◌, length, Option, Some, None, bytes_eq, Contains, slice_index_or, subst, inl, inr}
use Rattle.std.specs.List.{list_all, AllByRecursion as Each}
use Rattle.std.proofs.lemmas.Bool.{or_cases, or_left, or_right, and_parts, not-true, eqb-true}
use Rattle.std.proofs.lemmas.Slice.Eq.{bytes_eq-Decides}
use Rattle.ppq_words.specs.Uses.{Text, is_option, before_equals, after_equals}
use Rattle.ppq_words.specs.Usage.{has_no_equals, is_option_name}

-- a word of two hyphens and something
abbrev pub IsLong : Text → Type 0
IsLong word = (x : ℕ) × (xs : Text) × (word ≡ 45 ∷ 45 ∷ x ∷ xs)

-- a name of an option: something stands behind the hyphens, and no `=`
pub record IsOptionName (name : Text) : Type 0 where
  pub long : IsLong name
  pub before : before_equals name ≡ name
  pub after : after_equals name ≡ None
  pub before_at : (v : Text) → before_equals (name ++ 61 ∷ v) ≡ name
  pub after_at : (v : Text) → after_equals (name ++ 61 ∷ v) ≡ Some v

abbrev pub AreNames : List Text → Type 0
AreNames options = Each IsOptionName options

-- ---- the test for an option

pub contained : (os : List Text) (name : Text) → is_option os name ≡ true → Contains os name
contained [] name e = cc
contained (o ∷ os) name e = elim (or_cases (bytes_eq o name) (is_option os name) e) [
  | inl here ↦ (0, omega arith, (bytes_eq-Decides o name).0 here)
  | inr there ↦ let r = contained os name there in (suc r.0, omega (arith, r.1), r.2)
]

option_at : (os : List Text) (name : Text) (k : ℕ) → k < length os → slice_index_or os k name ≡ name → is_option os name ≡ true
option_at [] name k h e = absurd (omega (arith, h))
option_at (o ∷ os) name zero h e = or_left (bytes_eq o name) (is_option os name) ((bytes_eq-Decides o name).1 e)
option_at (o ∷ os) name (suc k) h e = or_right (bytes_eq o name) (is_option os name) (option_at os name k (omega (arith, h)) e)

pub is_among : (os : List Text) (name : Text) → Contains os name → is_option os name ≡ true
is_among os name h = option_at os name h.0 h.1 h.2

-- what holds of all options holds of one
pub among : (os : List Text) (name : Text) (P : Text → Type 0) → is_option os name ≡ true → Each P os → P name
among [] name P e each = cc
among (o ∷ os) name P e each = elim (or_cases (bytes_eq o name) (is_option os name) e) [
  | inl here ↦ subst P ((bytes_eq-Decides o name).0 here) each.0
  | inr there ↦ among os name P there each.1
]

-- ---- names that pass the test

whole : (n : Text) → has_no_equals n ≡ true → (before_equals n ≡ n) × (after_equals n ≡ None)
whole [] e = (refl, refl)
whole (b ∷ bs) e =
    let parts = and_parts (not (b == 61)) (has_no_equals bs) e in
    let other = not-true (b == 61) parts.0 in
    let rest = whole bs parts.1 in
    (ap₂ (λ (t : Bool) (z : Text). cond t [] (b ∷ z)) other rest.0, ap₂ (λ (t : Bool) (z : Option Text). cond t (Some bs) z) other rest.1)

cut : (n v : Text) → has_no_equals n ≡ true → (before_equals (n ++ 61 ∷ v) ≡ n) × (after_equals (n ++ 61 ∷ v) ≡ Some v)
cut [] v e = (refl, refl)
cut (b ∷ bs) v e =
    let parts = and_parts (not (b == 61)) (has_no_equals bs) e in
    let other = not-true (b == 61) parts.0 in
    let rest = cut bs v parts.1 in
    (ap₂ (λ (t : Bool) (z : Text). cond t [] (b ∷ z)) other rest.0, ap₂ (λ (t : Bool) (z : Option Text). cond t (Some (bs ++ 61 ∷ v)) z) other rest.1)

name_from : (b : ℕ) (bs : Text) → has_no_equals (b ∷ bs) ≡ true → IsOptionName (45 ∷ 45 ∷ b ∷ bs)
name_from b bs e = record {
  long = (b, bs, refl);
  before = ap (λ (z : Text). 45 ∷ 45 ∷ z) (whole (b ∷ bs) e).0;
  after = (whole (b ∷ bs) e).1;
  before_at = λ v. ap (λ (z : Text). 45 ∷ 45 ∷ z) (cut (b ∷ bs) v e).0;
  after_at = λ v. (cut (b ∷ bs) v e).1;
}

-- the hyphens, and what stands behind them
pub hyphens : (x y b : ℕ) (bs : Text) → is_option_name (x ∷ y ∷ b ∷ bs) ≡ true → (x ∷ y ∷ b ∷ bs ≡ 45 ∷ 45 ∷ b ∷ bs) × (has_no_equals (b ∷ bs) ≡ true)
hyphens x y b bs e =
    let one = and_parts (x == 45) (y == 45 && has_no_equals (b ∷ bs)) e in
    let two = and_parts (y == 45) (has_no_equals (b ∷ bs)) one.1 in
    (ap₂ (λ (p q : ℕ). p ∷ q ∷ b ∷ bs) (eqb-true x 45 one.0) (eqb-true y 45 two.0), two.1)

option_name : (o : Text) → is_option_name o ≡ true → IsOptionName o
option_name [] e = cc
option_name (x ∷ []) e = cc
option_name (x ∷ y ∷ []) e = cc
option_name (x ∷ y ∷ b ∷ bs) e = let h = hyphens x y b bs e in subst IsOptionName (sym h.0) (name_from b bs h.1)

pub names_from : (os : List Text) → list_all is_option_name os ≡ true → AreNames os
names_from [] e = tt
names_from (o ∷ os) e = let parts = and_parts (is_option_name o) (list_all is_option_name os) e in (option_name o parts.0, names_from os parts.1)
