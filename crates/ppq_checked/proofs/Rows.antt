-- Rows of four words: one word that is another makes one of four lanes another, and then their sum.
use Rattle.std.proofs.Common.{◌≡◌, ℕ, suc, zero, ◌<◌, List, [], length, fold, get_or, ap, arith}
use Rattle.std.specs.Int.{w64, from_le_bytes}
use Rattle.ppq_checked.specs.declared.lanes.Lanes.{Lanes}
use Rattle.ppq_checked.specs.Sums.{with_number, with_word, with_row, first_lanes, joined}
use Rattle.ppq_checked.proofs.Steps.{step_below}
use Rattle.ppq_checked.proofs.Folds.{Each, DifferOnce, fold_good, fold_differs, differ_at, each-get}
use Rattle.ppq_checked.proofs.Words.{Small, IsAnother, IsWord, IsAnotherWord, number_keeps, number_parts, word_keeps, word_parts}

abbrev pub IsRow : List (List ℕ) → Type 0
IsRow words = (length words ≡ 4) × Each IsWord words

pub record AllSmall (s : Lanes) : Type 0 where
  pub first : Small s.first
  pub second : Small s.second
  pub third : Small s.third
  pub fourth : Small s.fourth

-- one lane is another
pub data OneLane (s t : Lanes) : Type 0 where
  InFirst : IsAnother s.first t.first → s.second ≡ t.second → s.third ≡ t.third → s.fourth ≡ t.fourth → OneLane s t
  InSecond : s.first ≡ t.first → IsAnother s.second t.second → s.third ≡ t.third → s.fourth ≡ t.fourth → OneLane s t
  InThird : s.first ≡ t.first → s.second ≡ t.second → IsAnother s.third t.third → s.fourth ≡ t.fourth → OneLane s t
  InFourth : s.first ≡ t.first → s.second ≡ t.second → s.third ≡ t.third → IsAnother s.fourth t.fourth → OneLane s t

word_of : (words : List (List ℕ)) (k : ℕ) → k < 4 → IsRow words → IsWord (get_or words k [])
word_of words k below is =
    let long : length words ≡ 4 = is.0 in
    let within : k < length words = omega arith in
    each-get IsWord [] words k within is.1

row_good : (s : Lanes) (words : List (List ℕ)) → AllSmall s → IsRow words → AllSmall (with_row s words)
row_good s words g is = record {
  first = step_below s.first (from_le_bytes w64 (get_or words 0 []));
  second = step_below s.second (from_le_bytes w64 (get_or words 1 []));
  third = step_below s.third (from_le_bytes w64 (get_or words 2 []));
  fourth = step_below s.fourth (from_le_bytes w64 (get_or words 3 []));
}

row_keeps : (s t : Lanes) (words : List (List ℕ)) → AllSmall s → AllSmall t → IsRow words → OneLane s t → OneLane (with_row s words) (with_row t words)
row_keeps s t words gs gt is (InFirst a b c d) = InFirst (word_keeps s.first t.first (get_or words 0 []) gs.first gt.first (word_of words 0 (omega arith) is) a) (ap (λ z. with_word z (get_or words 1 [])) b) (ap (λ z. with_word z (get_or words 2 [])) c) (ap (λ z. with_word z (get_or words 3 [])) d)
row_keeps s t words gs gt is (InSecond a b c d) = InSecond (ap (λ z. with_word z (get_or words 0 [])) a) (word_keeps s.second t.second (get_or words 1 []) gs.second gt.second (word_of words 1 (omega arith) is) b) (ap (λ z. with_word z (get_or words 2 [])) c) (ap (λ z. with_word z (get_or words 3 [])) d)
row_keeps s t words gs gt is (InThird a b c d) = InThird (ap (λ z. with_word z (get_or words 0 [])) a) (ap (λ z. with_word z (get_or words 1 [])) b) (word_keeps s.third t.third (get_or words 2 []) gs.third gt.third (word_of words 2 (omega arith) is) c) (ap (λ z. with_word z (get_or words 3 [])) d)
row_keeps s t words gs gt is (InFourth a b c d) = InFourth (ap (λ z. with_word z (get_or words 0 [])) a) (ap (λ z. with_word z (get_or words 1 [])) b) (ap (λ z. with_word z (get_or words 2 [])) c) (word_keeps s.fourth t.fourth (get_or words 3 []) gs.fourth gt.fourth (word_of words 3 (omega arith) is) d)

row_parts_at : (s : Lanes) (x y : List (List ℕ)) (k : ℕ) → AllSmall s → IsRow x → IsRow y → k < 4 → IsAnotherWord (get_or x k []) (get_or y k [])
    → ((j : ℕ) → (j ≡ k → ⊥) → get_or x j [] ≡ get_or y j []) → OneLane (with_row s x) (with_row s y)
row_parts_at s x y zero g is was below r same = InFirst (word_parts s.first (get_or x 0 []) (get_or y 0 []) g.first (word_of x 0 below is) (word_of y 0 below was) r) (ap (with_word s.second) (same 1 (omega arith))) (ap (with_word s.third) (same 2 (omega arith))) (ap (with_word s.fourth) (same 3 (omega arith)))
row_parts_at s x y (suc zero) g is was below r same = InSecond (ap (with_word s.first) (same 0 (omega arith))) (word_parts s.second (get_or x 1 []) (get_or y 1 []) g.second (word_of x 1 below is) (word_of y 1 below was) r) (ap (with_word s.third) (same 2 (omega arith))) (ap (with_word s.fourth) (same 3 (omega arith)))
row_parts_at s x y (suc (suc zero)) g is was below r same = InThird (ap (with_word s.first) (same 0 (omega arith))) (ap (with_word s.second) (same 1 (omega arith))) (word_parts s.third (get_or x 2 []) (get_or y 2 []) g.third (word_of x 2 below is) (word_of y 2 below was) r) (ap (with_word s.fourth) (same 3 (omega arith)))
row_parts_at s x y (suc (suc (suc zero))) g is was below r same = InFourth (ap (with_word s.first) (same 0 (omega arith))) (ap (with_word s.second) (same 1 (omega arith))) (ap (with_word s.third) (same 2 (omega arith))) (word_parts s.fourth (get_or x 3 []) (get_or y 3 []) g.fourth (word_of x 3 below is) (word_of y 3 below was) r)
row_parts_at s x y (suc (suc (suc (suc k)))) g is was below r same = absurd (omega arith)

row_parts : (s : Lanes) (x y : List (List ℕ)) → AllSmall s → IsRow x → IsRow y → DifferOnce IsAnotherWord x y → OneLane (with_row s x) (with_row s y)
row_parts s x y g is was differ =
    let at = differ_at IsAnotherWord [] x y differ in
    let long : length x ≡ 4 = is.0 in
    let within : at.place < length x = at.within in
    let below : at.place < 4 = omega arith in
    row_parts_at s x y at.place g is was below at.other at.same

pub rows_differ : (xs ys : List (List (List ℕ))) (s : Lanes) → AllSmall s → Each IsRow xs → Each IsRow ys → DifferOnce (DifferOnce IsAnotherWord) xs ys → OneLane (fold with_row s xs) (fold with_row s ys)
rows_differ = fold_differs AllSmall OneLane IsRow (DifferOnce IsAnotherWord) with_row row_good row_keeps row_parts

pub rows_good : (xs : List (List (List ℕ))) (s : Lanes) → AllSmall s → Each IsRow xs → AllSmall (fold with_row s xs)
rows_good = fold_good AllSmall IsRow with_row row_good

pub first_good : AllSmall first_lanes
first_good = record { first = omega arith; second = omega arith; third = omega arith; fourth = omega arith }

pub joined_small : (s : Lanes) → Small (joined s)
joined_small s = step_below (with_number (with_number s.first s.second) s.third) s.fourth

-- two lanes joined, of which the first or the second is another
pub joined_differ : (s t : Lanes) → AllSmall s → AllSmall t → OneLane s t → IsAnother (joined s) (joined t)
joined_differ s t gs gt (InFirst a b c d) = rw (b, c, d) (number_keeps (with_number (with_number s.first t.second) t.third) (with_number (with_number t.first t.second) t.third) t.fourth (step_below (with_number s.first t.second) t.third) (step_below (with_number t.first t.second) t.third) gt.fourth (number_keeps (with_number s.first t.second) (with_number t.first t.second) t.third (step_below s.first t.second) (step_below t.first t.second) gt.third (number_keeps s.first t.first t.second gs.first gt.first gt.second a)))
joined_differ s t gs gt (InSecond a b c d) = rw (a, c, d) (number_keeps (with_number (with_number t.first s.second) t.third) (with_number (with_number t.first t.second) t.third) t.fourth (step_below (with_number t.first s.second) t.third) (step_below (with_number t.first t.second) t.third) gt.fourth (number_keeps (with_number t.first s.second) (with_number t.first t.second) t.third (step_below t.first s.second) (step_below t.first t.second) gt.third (number_parts t.first s.second t.second gt.first gs.second gt.second b)))
joined_differ s t gs gt (InThird a b c d) = rw (a, b, d) (number_keeps (with_number (with_number t.first t.second) s.third) (with_number (with_number t.first t.second) t.third) t.fourth (step_below (with_number t.first t.second) s.third) (step_below (with_number t.first t.second) t.third) gt.fourth (number_parts (with_number t.first t.second) s.third t.third (step_below t.first t.second) gs.third gt.third c))
joined_differ s t gs gt (InFourth a b c d) = rw (a, b, c) (number_parts (with_number (with_number t.first t.second) t.third) s.fourth t.fourth (step_below (with_number t.first t.second) t.third) gs.fourth gt.fourth d)
