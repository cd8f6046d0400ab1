-- Lemmas on lines.
use Rattle.std.proofs.Common.{◌≡◌, ℕ, ◌+◌, ◌-◌, ◌<◌, ◌≤◌, List, [], ◌∷◌, ◌++◌, length, take, drop, Some, None, Bool, true, false, cond, not, ◌==◌, nat_lt, position, refl, ap, arith, suc, sym, length-drop}
use Rattle.std.specs.List.{prefix_len}
use Rattle.std.proofs.lemmas.Bool.Decides.{nat_tests}
use Rattle.std.proofs.lemmas.Bool.{ne_eqb}
use Rattle.std.proofs.lemmas.List.{take_all}
use Rattle.ppq_script.specs.Lines.{lines_of, onto}
use Rattle.ppq_script.specs.Meaning.{IsOneLine}

-- how many bytes stand before the first line feed
abbrev front_len : List ℕ → ℕ
front_len bytes = prefix_len (λ b. not (b == 10)) bytes

onto-cons : (b : ℕ) (bs : List ℕ) (m : ℕ) (ls : List (List ℕ)) → lines_of bs ≡ take m bs ∷ ls → onto b (lines_of bs) ≡ (b ∷ take m bs) ∷ ls
onto-cons b bs m ls e = rw e refl

pub cut-found : (bytes : List ℕ) → front_len bytes < length bytes → lines_of bytes ≡ take (front_len bytes) bytes ∷ lines_of (drop (suc (front_len bytes)) bytes)
cut-found [] h = absurd (omega arith)
cut-found (b ∷ bs) h = by_test (b == 10) h (λ (k : front_len bs < length bs). cut-found bs k)
  where
    by_test : (t : Bool) → cond (not t) (1 + front_len bs) 0 < suc (length bs) → (front_len bs < length bs → lines_of bs ≡ take (front_len bs) bs ∷ lines_of (drop (suc (front_len bs)) bs))
        → cond t ([] ∷ lines_of bs) (onto b (lines_of bs)) ≡ take (cond (not t) (1 + front_len bs) 0) (b ∷ bs) ∷ lines_of (drop (suc (cond (not t) (1 + front_len bs) 0)) (b ∷ bs))
    by_test true h rest = refl
    by_test false h rest = let e : 1 + front_len bs ≡ suc (front_len bs) = omega arith in rw e (onto-cons b bs (front_len bs) _ (rest (omega arith)))

pub cut-none : (b : ℕ) (bs : List ℕ) → suc (length bs) ≤ front_len (b ∷ bs) → lines_of (b ∷ bs) ≡ (b ∷ bs) ∷ []
cut-none b [] h = by_test (b == 10) h
  where
    by_test : (t : Bool) → 1 ≤ cond (not t) (1 + 0) 0 → cond t ([] ∷ []) ((b ∷ []) ∷ []) ≡ (b ∷ []) ∷ []
    by_test true h = absurd (omega arith)
    by_test false h = refl
cut-none b (x ∷ xs) h = by_test (b == 10) h (λ (k : suc (length xs) ≤ front_len (x ∷ xs)). cut-none x xs k)
  where
    by_test : (t : Bool) → suc (suc (length xs)) ≤ cond (not t) (1 + front_len (x ∷ xs)) 0 → (suc (length xs) ≤ front_len (x ∷ xs) → lines_of (x ∷ xs) ≡ (x ∷ xs) ∷ []) → cond t ([] ∷ lines_of (x ∷ xs)) (onto b (lines_of (x ∷ xs))) ≡ (b ∷ x ∷ xs) ∷ []
    by_test true h rest = absurd (omega arith)
    by_test false h rest = ap (onto b) (rest (omega arith))

pub place : (n m : ℕ) (t : Bool) (i : ℕ) → nat_lt n m ≡ t → cond t (Some n) None ≡ Some i → (n ≡ i) × (n < m)
place n m true i e h = (cc, grind (arith, nat_tests))
place n m false i e h = cc

pub no_place : (n m : ℕ) (t : Bool) → nat_lt n m ≡ t → cond t (Some n) None ≡ None → m ≤ n
no_place n m true e h = cc
no_place n m false e h = grind (arith, nat_tests)

pub lines-at : (bytes : List ℕ) (i : ℕ) → position (λ b. b == 10) bytes ≡ Some i → lines_of bytes ≡ take i bytes ∷ lines_of (drop (suc i) bytes)
lines-at bytes i e =
    let found = place (front_len bytes) (length bytes) (nat_lt (front_len bytes) (length bytes)) i refl e in
    rw (sym found.0) (cut-found bytes found.1)

pub lines-last : (bytes : List ℕ) → 0 < length bytes → position (λ b. b == 10) bytes ≡ None → lines_of bytes ≡ bytes ∷ []
lines-last [] h e = absurd (omega arith)
lines-last (b ∷ bs) h e = cut-none b bs (no_place (front_len (b ∷ bs)) (length (b ∷ bs)) (nat_lt (front_len (b ∷ bs)) (length (b ∷ bs))) refl e)

-- a line feed ends the first line
pub lines_of-first : (line rest : List ℕ) → IsOneLine line → lines_of (line ++ 10 ∷ rest) ≡ line ∷ lines_of rest
lines_of-first [] rest h = refl
lines_of-first (b ∷ bs) rest h =
    let other : (b == 10) ≡ false = ne_eqb b 10 h.0 in
    rw other (ap (onto b) (lines_of-first bs rest h.1))

-- the last line may lack its line feed
pub lines_of-last : (line : List ℕ) → IsOneLine line → 1 ≤ length line → lines_of line ≡ line ∷ []
lines_of-last [] h some = absurd (omega arith)
lines_of-last (b ∷ []) h some = rw (ne_eqb b 10 h.0) refl
lines_of-last (b ∷ x ∷ xs) h some =
    let other : (b == 10) ≡ false = ne_eqb b 10 h.0 in
    rw other (ap (onto b) (lines_of-last (x ∷ xs) h.1 (omega arith)))

-- what `&xs[n..]` is
pub from_place : (xs : List ℕ) (n : ℕ) → take (length xs - n) (drop n xs) ≡ drop n xs
from_place xs n = take_all (length xs - n) (drop n xs) (omega (arith, length-drop {A = ℕ}))
