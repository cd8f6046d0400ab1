-- One byte that changed changes the sum of all: it is in one word, or behind the words; that word is in one row, or behind the rows.
use Rattle.std.proofs.Common.{◌≡◌, ◌≢◌, ◌⊎◌, inl, inr, ℕ, suc, zero, ◌*◌, ◌/◌, ◌<◌, ◌≤◌, List, length, drop, fold, get_or, set, All, sym, ap, ◌∙◌, arith, subst}
use Rattle.std.specs.Simd.{first_chunks}
use Rattle.ppq_checked.specs.declared.lanes.Lanes.{Lanes}
use Rattle.ppq_checked.specs.Sums.{with_number, with_word, with_row, first_lanes, joined, sum_of_words, sum_of}
use Rattle.ppq_checked.proofs.Folds.{Each, DifferOnce, each-all, each-set, differ_set, differ_length, chunks, chunks_full, left, left_is, each-drop}
use Rattle.ppq_checked.proofs.Words.{Small, IsByte, IsAnother, IsWord, IsAnotherWord, bytes_keep, bytes_differ, words_keep, words_differ, words_small}
use Rattle.ppq_checked.proofs.Rows.{IsRow, rows_differ, rows_good, first_good, joined_small, joined_differ}

each-left : {A : Type 0} (P : A → Type 0) (n k : ℕ) (xs : List A) → Each P xs → Each P (left n k xs)
each-left P n zero xs all = all
each-left P n (suc k) xs all = each-left P n k (drop n xs) (each-drop P n xs all)

-- the sum of words, of which so many rows stand in front
abbrev pub words_at : ℕ → List (List ℕ) → ℕ
words_at k xs = fold with_word (joined (fold with_row first_lanes (first_chunks 4 k xs))) (left 4 k xs)

words_at_parts : (k : ℕ) (xs ys : List (List ℕ)) → Each IsWord xs → Each IsWord ys → Each IsRow (first_chunks 4 k xs) → Each IsRow (first_chunks 4 k ys)
    → (DifferOnce (DifferOnce IsAnotherWord) (first_chunks 4 k xs) (first_chunks 4 k ys) × (left 4 k xs ≡ left 4 k ys)) ⊎ ((first_chunks 4 k xs ≡ first_chunks 4 k ys) × DifferOnce IsAnotherWord (left 4 k xs) (left 4 k ys))
    → IsAnother (words_at k xs) (words_at k ys)
words_at_parts k xs ys ox oy rx ry (inl (d, e)) =
    let s : Lanes = fold with_row first_lanes (first_chunks 4 k xs) in
    let t : Lanes = fold with_row first_lanes (first_chunks 4 k ys) in
    let apart : IsAnother (joined s) (joined t) = joined_differ s t (rows_good (first_chunks 4 k xs) first_lanes first_good rx) (rows_good (first_chunks 4 k ys) first_lanes first_good ry) (rows_differ (first_chunks 4 k xs) (first_chunks 4 k ys) first_lanes first_good rx ry d) in
    subst (λ (zs : List (List ℕ)). IsAnother (fold with_word (joined s) (left 4 k xs)) (fold with_word (joined t) zs)) e (words_keep (left 4 k xs) (joined s) (joined t) (joined_small s) (joined_small t) (each-left IsWord 4 k xs ox) apart)
words_at_parts k xs ys ox oy rx ry (inr (e, d)) =
    let s : Lanes = fold with_row first_lanes (first_chunks 4 k xs) in
    subst (λ (zs : List (List (List ℕ))). IsAnother (fold with_word (joined s) (left 4 k xs)) (fold with_word (joined (fold with_row first_lanes zs)) (left 4 k ys))) e (words_differ (left 4 k xs) (left 4 k ys) (joined s) (joined_small s) (each-left IsWord 4 k xs ox) (each-left IsWord 4 k ys oy) d)

sum_of_words_is : (xs : List (List ℕ)) → sum_of_words xs ≡ words_at (length xs / 4) xs
unfolding sum_of_words
sum_of_words_is xs = ap (fold with_word (joined (fold with_row first_lanes (first_chunks 4 (length xs / 4) xs)))) (sym (left_is 4 (length xs / 4) xs))

sum_of_words_differ : (xs ys : List (List ℕ)) → Each IsWord xs → Each IsWord ys → DifferOnce IsAnotherWord xs ys → IsAnother (sum_of_words xs) (sum_of_words ys)
sum_of_words_differ xs ys ox oy d =
    let long : length xs ≡ length ys = differ_length IsAnotherWord xs ys d in
    let k : ℕ = length xs / 4 in
    let mx : length xs / 4 * 4 ≤ length xs = omega arith in
    let my : length xs / 4 * 4 ≤ length ys = omega arith in
    let is : sum_of_words xs ≡ words_at (length xs / 4) xs = sum_of_words_is xs in
    let was : sum_of_words ys ≡ words_at (length xs / 4) ys = sum_of_words_is ys ∙ ap (λ (n : ℕ). words_at (n / 4) ys) (sym long) in
    let apart : IsAnother (words_at (length xs / 4) xs) (words_at (length xs / 4) ys) = words_at_parts (length xs / 4) xs ys ox oy (chunks_full IsWord 4 (length xs / 4) xs mx ox) (chunks_full IsWord 4 (length xs / 4) ys my oy) (chunks IsAnotherWord 4 (length xs / 4) xs ys d) in
    λ same. apart (sym is ∙ same ∙ was)

-- the sum of words is small: it is what a step made
sum_of_words_small : (xs : List (List ℕ)) → Each IsWord xs → Small (sum_of_words xs)
sum_of_words_small xs ox = rw (sum_of_words_is xs) (words_small (left 4 (length xs / 4) xs) (joined (fold with_row first_lanes (first_chunks 4 (length xs / 4) xs))) (joined_small (fold with_row first_lanes (first_chunks 4 (length xs / 4) xs))) (each-left IsWord 4 (length xs / 4) xs ox))

-- the sum of bytes, of which so many words stand in front
abbrev pub bytes_at : ℕ → List ℕ → ℕ
bytes_at k xs = fold with_number (sum_of_words (first_chunks 8 k xs)) (left 8 k xs)

sum_of_is : (xs : List ℕ) → sum_of xs ≡ bytes_at (length xs / 8) xs
unfolding sum_of
sum_of_is xs = ap (fold with_number (sum_of_words (first_chunks 8 (length xs / 8) xs))) (sym (left_is 8 (length xs / 8) xs))

bytes_at_parts : (k : ℕ) (xs ys : List ℕ) → Each IsByte xs → Each IsByte ys → Each IsWord (first_chunks 8 k xs) → Each IsWord (first_chunks 8 k ys)
    → (DifferOnce IsAnotherWord (first_chunks 8 k xs) (first_chunks 8 k ys) × (left 8 k xs ≡ left 8 k ys)) ⊎ ((first_chunks 8 k xs ≡ first_chunks 8 k ys) × DifferOnce IsAnother (left 8 k xs) (left 8 k ys))
    → IsAnother (bytes_at k xs) (bytes_at k ys)
bytes_at_parts k xs ys ox oy wx wy (inl (d, e)) =
    let s : ℕ = sum_of_words (first_chunks 8 k xs) in
    let t : ℕ = sum_of_words (first_chunks 8 k ys) in
    subst (λ (zs : List ℕ). IsAnother (fold with_number s (left 8 k xs)) (fold with_number t zs)) e (bytes_keep (left 8 k xs) s t (sum_of_words_small (first_chunks 8 k xs) wx) (sum_of_words_small (first_chunks 8 k ys) wy) (each-left IsByte 8 k xs ox) (sum_of_words_differ (first_chunks 8 k xs) (first_chunks 8 k ys) wx wy d))
bytes_at_parts k xs ys ox oy wx wy (inr (e, d)) =
    let s : ℕ = sum_of_words (first_chunks 8 k xs) in
    subst (λ (zs : List (List ℕ)). IsAnother (fold with_number s (left 8 k xs)) (fold with_number (sum_of_words zs) (left 8 k ys))) e (bytes_differ (left 8 k xs) (left 8 k ys) s (sum_of_words_small (first_chunks 8 k xs) wx) (each-left IsByte 8 k xs ox) (each-left IsByte 8 k ys oy) d)

sum_of_differs : (xs ys : List ℕ) → Each IsByte xs → Each IsByte ys → DifferOnce IsAnother xs ys → sum_of xs ≢ sum_of ys
sum_of_differs xs ys ox oy d =
    let long : length xs ≡ length ys = differ_length IsAnother xs ys d in
    let mx : length xs / 8 * 8 ≤ length xs = omega arith in
    let my : length xs / 8 * 8 ≤ length ys = omega arith in
    let is : sum_of xs ≡ bytes_at (length xs / 8) xs = sum_of_is xs in
    let was : sum_of ys ≡ bytes_at (length xs / 8) ys = sum_of_is ys ∙ ap (λ (n : ℕ). bytes_at (n / 8) ys) (sym long) in
    let apart : IsAnother (bytes_at (length xs / 8) xs) (bytes_at (length xs / 8) ys) = bytes_at_parts (length xs / 8) xs ys ox oy (chunks_full IsByte 8 (length xs / 8) xs mx ox) (chunks_full IsByte 8 (length xs / 8) ys my oy) (chunks IsAnother 8 (length xs / 8) xs ys d) in
    λ same. apart (sym is ∙ same ∙ was)

pub byte_is_noticed : (xs : List ℕ) (place other : ℕ) → All IsByte xs → IsByte other → place < length xs → IsAnother other (get_or xs place 0) → sum_of (set xs place other) ≢ sum_of xs
byte_is_noticed xs place other all is within differs =
    let each : Each IsByte xs = each-all IsByte xs all in
    sum_of_differs (set xs place other) xs (each-set IsByte xs place other is each) each (differ_set IsAnother 0 other xs place within differs)
