-- Lemmas on numbers in digits.
use Rattle.std.proofs.Common.{◌≡◌, ℕ, ◌+◌, ◌*◌, ◌-◌, ◌<◌, ◌≤◌, ◌^◌, List, [], ◌∷◌, length, Some, None, Bool, true, false, cond, ◌&&◌, nat_lt, nat_le, refl, arith, get_or, drop, drop-cons, suc}
use Rattle.std.proofs.lemmas.List.{drop_all}
use Rattle.std.specs.List.{list_all}
use Rattle.std.specs.Char.{is_ascii_digit}
use Rattle.std.proofs.lemmas.Bool.Decides.{nat_tests}
use Rattle.ppq_script.specs.Number.{value_from, number_of}

pub value_from-above : (n : ℕ) (digits : List ℕ) → n ≤ value_from n digits
value_from-above n [] = omega arith
value_from-above n (d ∷ ds) = let h = value_from-above (n * 10 + (d - 48)) ds in omega arith

test_above : (a b : ℕ) → b ≤ a → nat_lt a b ≡ false
test_above a b h = grind (arith, nat_tests)

-- a number that does not fit
pub number_of-above : (digits : List ℕ) → 2 ^ 64 ≤ value_from 0 digits → number_of digits ≡ None
number_of-above digits h =
    let e = test_above (value_from 0 digits) (2 ^ 64) h in
    elim (list_all is_ascii_digit digits) as (λ (b : Bool). cond (b && nat_lt (value_from 0 digits) (2 ^ 64) && nat_le 1 (length digits) && nat_le (length digits) 20) (Some (value_from 0 digits)) None ≡ None) [ true ↦ rw e refl | false ↦ refl ]

four_true : (a b c d : Bool) (v : ℕ) → a ≡ true → b ≡ true → c ≡ true → d ≡ true → cond (a && b && c && d) (Some v) None ≡ Some v
four_true true true true true v e f g h = refl
four_true true true true false v e f g h = cc
four_true true true false d v e f g h = cc
four_true true false c d v e f g h = cc
four_true false b c d v e f g h = cc

test_below : (a b : ℕ) → a < b → nat_lt a b ≡ true
test_below a b h = grind (arith, nat_tests)

test_upto : (a b : ℕ) → a ≤ b → nat_le a b ≡ true
test_upto a b h = grind (arith, nat_tests)

pub number_of-is : (digits : List ℕ) → list_all is_ascii_digit digits ≡ true → value_from 0 digits < 2 ^ 64 → 1 ≤ length digits → length digits ≤ 20 → number_of digits ≡ Some (value_from 0 digits)
number_of-is digits e below some few = four_true _ _ _ _ (value_from 0 digits) e (test_below _ _ below) (test_upto _ _ some) (test_upto _ _ few)

-- the next digit of the digits from i on
pub value_from-drop : (v : ℕ) (digits : List ℕ) (i : ℕ) → i < length digits → v * 10 + (get_or digits i 0 - 48) ≤ value_from v (drop i digits)
value_from-drop v digits i h = rw (drop-cons digits i 0) (value_from-above (v * 10 + (get_or digits i 0 - 48)) (drop (suc i) digits))

pub value_from-past : (v : ℕ) (digits : List ℕ) (i : ℕ) → length digits ≤ i → value_from v (drop i digits) ≡ v
value_from-past v digits i h = rw (drop_all i digits h) refl

pub list_all-past : (p : ℕ → Bool) (digits : List ℕ) (i : ℕ) → length digits ≤ i → list_all p (drop i digits) ≡ true
list_all-past p digits i h = rw (drop_all i digits h) refl
