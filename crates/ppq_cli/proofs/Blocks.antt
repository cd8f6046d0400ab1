-- The blocks that come back are those that were made.
use Rattle.std.proofs.Common.{◌≡◌, ℕ, ◌+◌, ◌≤◌, List, [], ◌∷◌, ◌++◌, length, map, refl, sym, ap, ◌∙◌, subst, arith, eq-eqb, zero-add, append-nil}
use Rattle.std.specs.Prelude.{◌==◌, cond, sum_by, String}
use Rattle.std.proofs.Common.{inl, inr}
use Rattle.std.specs.declared.alloc.Global.{Global}
use Rattle.std.specs.List.{range_with_len}
use Rattle.std.specs.List.Sorted.{IsPermutation}
use Rattle.std.proofs.lemmas.Bool.{cases_eq, ne_eqb}
use Rattle.std.proofs.lemmas.List.Sums.{sum_by-append, sum_by-cons}
use Rattle.std.proofs.lemmas.List.Sorted.{IsPermutation-refl, IsPermutation-cons, IsPermutation-middle, IsPermutation-trans}
use Rattle.std.proofs.lemmas.Simd.{map-map}
use Rattle.ppq_words.specs.ppq_outside.Shown.{Shown}
use Rattle.ppq_words.specs.ppq_outside.Made.{HasMade, HasMadeJust}
use Rattle.ppq_jobs.specs.ppq_engine.ppq_array.Kept.{weight_at, times_of, SameSlots}
use Rattle.ppq_cli.specs.RunWords.{reading, OfWords}
use Rattle.ppq_cli.proofs.Transfers.{of_any}

abbrev is_at : ℕ → ℕ → ℕ
is_at n x = cond (x == n) 1 0

-- how often a number stands in a list
abbrev tally : ℕ → List ℕ → ℕ
tally n xs = sum_by (is_at n) xs

tally-here : (n : ℕ) (xs : List ℕ) → tally n (n ∷ xs) ≡ 1 + tally n xs
tally-here n xs = sum_by-cons (is_at n) n xs ∙ ap (λ b. cond b 1 0 + tally n xs) (eq-eqb n n refl)

tally-miss : (n x : ℕ) (xs : List ℕ) → (x ≡ n → ⊥) → tally n (x ∷ xs) ≡ tally n xs
tally-miss n x xs ne = sum_by-cons (is_at n) x xs ∙ ap (λ b. cond b 1 0 + tally n xs) (ne_eqb x n ne) ∙ zero-add (tally n xs)

tally-middle : (n y : ℕ) (xs ys : List ℕ) → tally n (xs ++ y ∷ ys) ≡ is_at n y + tally n (xs ++ ys)
tally-middle n y xs ys = omega (arith, sum_by-append (is_at n) xs (y ∷ ys), sum_by-append (is_at n) xs ys, sum_by-cons (is_at n) y ys)

-- a list round a number
record Around (n : ℕ) (xs : List ℕ) : Type 0 where
  front : List ℕ
  back : List ℕ
  all : xs ≡ front ++ n ∷ back

around : (n : ℕ) (xs : List ℕ) → 1 ≤ tally n xs → Around n xs
around n [] some = absurd (omega arith)
around n (x ∷ xs) some = elim (cases_eq x n) as (λ _. Around n (x ∷ xs)) [
  | inl e ↦ record { front = []; back = xs; all = ap (λ k. k ∷ xs) e }
  | inr ne ↦ let rest : Around n xs = around n xs (omega (arith, tally-miss n x xs ne)) in
      record { front = x ∷ rest.front; back = rest.back; all = ap (λ (t : List ℕ). x ∷ t) rest.all }
]

-- lists that have each number equally often are one list in two orders
permuted : (ys xs : List ℕ) → ((n : ℕ) → tally n xs ≡ tally n ys) → IsPermutation xs ys
permuted [] [] same = IsPermutation-refl []
permuted [] (x ∷ xs) same = absurd (omega (arith, same x, tally-here x xs))
permuted (y ∷ ys) xs same =
    let found : Around y xs = around y xs (omega (arith, same y, tally-here y ys)) in
    let rest : (n : ℕ) → tally n (found.front ++ found.back) ≡ tally n ys = λ n. omega (arith, same n, ap (tally n) found.all, tally-middle n y found.front found.back, sum_by-cons (is_at n) y ys) in
    let P : List ℕ → Type 0 = λ zs. IsPermutation zs (y ∷ ys) in
    subst P (sym found.all) (IsPermutation-trans (found.front ++ y ∷ found.back) (y ∷ (found.front ++ found.back)) (y ∷ ys) (IsPermutation-middle found.front y found.back) (IsPermutation-cons y (found.front ++ found.back) ys (permuted ys (found.front ++ found.back) rest)))

abbrev numbers : List Shown → List ℕ
numbers slots = map (λ s. s.number) slots

tally-numbers : (n : ℕ) (slots : List Shown) → tally n (numbers slots) ≡ times_of n slots
tally-numbers n [] = refl
tally-numbers n (slot ∷ slots) =
    sum_by-cons (is_at n) slot.number (numbers slots) ∙ ap (λ k. is_at n slot.number + k) (tally-numbers n slots) ∙ sym (sum_by-cons (weight_at (λ s. 1) n) slot slots)

-- slots that were numbered from 0 in order are numbered from 0 in some order
pub returned : (before now : List Shown) → SameSlots before now → numbers before ≡ range_with_len 0 (length before) → IsPermutation (numbers now) (range_with_len 0 (length now))
returned before now same is =
    let P : List ℕ → Type 0 = λ t. IsPermutation (numbers now) t in
    subst P (is ∙ ap (range_with_len 0) (sym same.length)) (permuted (numbers before) (numbers now) (λ n. tally-numbers n now ∙ same.each_once n ∙ sym (tally-numbers n before)))

pub in_order : (slots : List Shown) → numbers slots ≡ range_with_len 0 (length slots) → IsPermutation (numbers slots) (range_with_len 0 (length slots))
in_order slots is = let P : List ℕ → Type 0 = λ t. IsPermutation (numbers slots) t in subst P is (IsPermutation-refl (numbers slots))

pub made_just :
    {S : Type 0} (shown : S → Shown) (slots : List S) (before now : List ℕ → Type 0) (count : ℕ)
    → IsPermutation (numbers (map shown slots)) (range_with_len 0 (length (map shown slots))) → length (map shown slots) ≡ count → HasMade before now (range_with_len 0 count)
    → HasMadeJust before now (map (λ s. (shown s).number) slots)
made_just {S} shown slots before now count is long made =
    let P : List ℕ → Type 0 = λ t. IsPermutation t (range_with_len 0 (length (map shown slots))) in
    record {
      order = range_with_len 0 (length (map shown slots));
      same = subst P (map-map (λ (s : Shown). s.number) shown slots) is;
      made = let Q : ℕ → Type 0 = λ k. HasMade before now (range_with_len 0 k) in subst Q (sym long) made;
    }

-- no block was made, and none comes back
pub made_nothing : {S : Type 0} (number : S → ℕ) (slots : List S) (before : List ℕ → Type 0) → slots ≡ [] → HasMadeJust before before (map number slots)
made_nothing number slots before none = record {
  order = [];
  same = let P : List ℕ → Type 0 = λ t. IsPermutation t [] in subst P (sym (ap (map number) none)) (IsPermutation-refl []);
  made = λ made had. subst before (sym (append-nil made)) had;
}

-- of whatever device the arguments name
pub made_nothing_named :
    {S : Type 0} (number : S → ℕ) (slots : List S) (made : List ℕ → List ℕ → Type 0) (words : List (String Global)) → slots ≡ []
    → OfWords words (λ r. HasMadeJust (made r.device) (made r.device) (map number slots))
made_nothing_named number slots made words none = of_any (reading words) _ (λ r. made_nothing number slots (made r.device) none)
