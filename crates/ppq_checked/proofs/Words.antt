-- Words of 8 bytes: a word that has another byte is another number, and another word in a sum makes it another sum.
use Rattle.std.proofs.Common.{◌≡◌, ◌≢◌, ℕ, suc, zero, ◌^◌, ◌<◌, List, [], ◌∷◌, length, fold, get_or, refl, sym, ap, ◌∙◌, arith, subst}
use Rattle.std.specs.Int.{w64, from_le_bytes, to_le_bytes}
use Rattle.std.proofs.lemmas.Nat.{le_bytes_8}
use Rattle.ppq_checked.specs.Sums.{with_number, with_word}
use Rattle.ppq_checked.proofs.Steps.{number_is_noticed, lane_is_noticed, step_below}
use Rattle.ppq_checked.proofs.Folds.{Each, DifferOnce, fold_keeps, fold_good, fold_differs, differ_not_same}

abbrev pub Small : ℕ → Type 0
Small n = n < 2 ^ 64

abbrev pub IsByte : ℕ → Type 0
IsByte byte = byte < 256

abbrev pub IsAnother : ℕ → ℕ → Type 0
IsAnother one other = one ≢ other

abbrev pub IsWord : List ℕ → Type 0
IsWord word = (length word ≡ 8) × Each IsByte word

pub byte_at : (word : List ℕ) → Each IsByte word → (i : ℕ) → get_or word i 0 < 256
byte_at [] all i = omega arith
byte_at (x ∷ xs) all zero = all.0
byte_at (x ∷ xs) all (suc i) = byte_at xs all.1 i

pub word_small : (word : List ℕ) → IsWord word → Small (from_le_bytes w64 word)
word_small word is =
    let b0 : get_or word 0 0 < 256 = byte_at word is.1 0 in
    let b1 : get_or word 1 0 < 256 = byte_at word is.1 1 in
    let b2 : get_or word 2 0 < 256 = byte_at word is.1 2 in
    let b3 : get_or word 3 0 < 256 = byte_at word is.1 3 in
    let b4 : get_or word 4 0 < 256 = byte_at word is.1 4 in
    let b5 : get_or word 5 0 < 256 = byte_at word is.1 5 in
    let b6 : get_or word 6 0 < 256 = byte_at word is.1 6 in
    let b7 : get_or word 7 0 < 256 = byte_at word is.1 7 in
    omega arith

pub word_same : (one other : List ℕ) → IsWord one → IsWord other → from_le_bytes w64 one ≡ from_le_bytes w64 other → one ≡ other
word_same one other is was same =
    sym (le_bytes_8 one (from_le_bytes w64 one) is.0 (byte_at one is.1) refl) ∙ ap (to_le_bytes w64) same ∙ le_bytes_8 other (from_le_bytes w64 other) was.0 (byte_at other was.1) refl

never_another : (x : ℕ) → IsAnother x x → ⊥
never_another x other = other refl

-- bytes, one by one
pub number_keeps : (s t x : ℕ) → Small s → Small t → Small x → IsAnother s t → IsAnother (with_number s x) (with_number t x)
number_keeps s t x gs gt gx apart = λ same. apart (lane_is_noticed s t x gs gt gx same)

pub number_parts : (s x y : ℕ) → Small s → Small x → Small y → IsAnother x y → IsAnother (with_number s x) (with_number s y)
number_parts s x y g gx gy apart = λ same. apart (number_is_noticed s x y g gx gy same)

byte_small : (x : ℕ) → IsByte x → Small x
byte_small x is = omega arith

pub bytes_keep : (xs : List ℕ) (s t : ℕ) → Small s → Small t → Each IsByte xs → IsAnother s t → IsAnother (fold with_number s xs) (fold with_number t xs)
bytes_keep = fold_keeps Small IsAnother IsByte with_number (λ s x _ _. step_below s x) (λ s t x gs gt is apart. number_keeps s t x gs gt (byte_small x is) apart)

pub bytes_differ : (xs ys : List ℕ) (s : ℕ) → Small s → Each IsByte xs → Each IsByte ys → DifferOnce IsAnother xs ys → IsAnother (fold with_number s xs) (fold with_number s ys)
bytes_differ = fold_differs Small IsAnother IsByte IsAnother with_number (λ s x _ _. step_below s x) (λ s t x gs gt is apart. number_keeps s t x gs gt (byte_small x is) apart) (λ s x y g is was apart. number_parts s x y g (byte_small x is) (byte_small y was) apart)

-- words, one by one
abbrev pub IsAnotherWord : List ℕ → List ℕ → Type 0
IsAnotherWord one other = DifferOnce IsAnother one other

pub word_keeps : (s t : ℕ) (x : List ℕ) → Small s → Small t → IsWord x → IsAnother s t → IsAnother (with_word s x) (with_word t x)
word_keeps s t x gs gt is apart = number_keeps s t (from_le_bytes w64 x) gs gt (word_small x is) apart

pub word_parts : (s : ℕ) (x y : List ℕ) → Small s → IsWord x → IsWord y → IsAnotherWord x y → IsAnother (with_word s x) (with_word s y)
word_parts s x y g is was apart =
    let another : from_le_bytes w64 x ≡ from_le_bytes w64 y → ⊥ = λ same. differ_not_same IsAnother never_another y (subst (λ (z : List ℕ). DifferOnce IsAnother z y) (word_same x y is was same) apart) in
    number_parts s (from_le_bytes w64 x) (from_le_bytes w64 y) g (word_small x is) (word_small y was) another

pub words_keep : (xs : List (List ℕ)) (s t : ℕ) → Small s → Small t → Each IsWord xs → IsAnother s t → IsAnother (fold with_word s xs) (fold with_word t xs)
words_keep = fold_keeps Small IsAnother IsWord with_word (λ s x _ _. step_below s (from_le_bytes w64 x)) word_keeps

pub words_differ : (xs ys : List (List ℕ)) (s : ℕ) → Small s → Each IsWord xs → Each IsWord ys → DifferOnce IsAnotherWord xs ys → IsAnother (fold with_word s xs) (fold with_word s ys)
words_differ = fold_differs Small IsAnother IsWord IsAnotherWord with_word (λ s x _ _. step_below s (from_le_bytes w64 x)) word_keeps word_parts

pub words_small : (xs : List (List ℕ)) (s : ℕ) → Small s → Each IsWord xs → Small (fold with_word s xs)
words_small = fold_good Small IsWord with_word (λ s x _ _. step_below s (from_le_bytes w64 x))
