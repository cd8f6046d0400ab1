-- Pairs are in the order of their bytes: numbers below 2^64 are in that of their eight bytes, the highest first.
use Rattle.std.proofs.Common.{◌≡◌, ℕ, zero, suc, ◌+◌, ◌*◌, ◌^◌, ◌<◌, ◌≤◌, ◌⊎◌, inl, inr, List, [], ◌∷◌, ◌++◌, length, refl, sym, ap, ap₂, ◌∙◌, arith, lit<, Ordering}
use Rattle.std.specs.declared.cmp.Ordering.TheVariants.{Less, Equal, Greater}
use Rattle.std.specs.Ordering.{nat_cmp, ordering_then, MatchOrdering}
use Rattle.std.specs.Cmp.{nat_cmp_is}
use Rattle.std.specs.Cmp.Lexicographic.{slice_cmp}
use Rattle.std.specs.Int.{w64, to_be_bytes, from_be_bytes, byte_at, bytes_high_first}
use Rattle.std.proofs.lemmas.Cmp.{ranked}
use Rattle.std.proofs.lemmas.Nat.{from_be_bytes-to_be_bytes_8}
use Rattle.std.proofs.Math.Nat.{mod-lt, mul-le-mul_right, suc-mul, pow-suc}
use Rattle.ppq_record.specs.declared.pair.Pair.{Pair}
use Rattle.ppq_record.specs.Pair.{IsPairValue, pair_bytes, pair_cmp}

-- the number that the lowest k bytes of n are
low : ℕ → ℕ → ℕ
low zero n = 0
low (suc k) n = byte_at k n * 256 ^ k + low k n

byte_at-below : (k n : ℕ) → byte_at k n < 256
byte_at-below zero n = mod-lt n (lit< tt)
byte_at-below (suc k) n = mod-lt _ (lit< tt)

low-below : (k n : ℕ) → low k n < 256 ^ k
unfolding low
low-below zero n = lit< tt
low-below (suc k) n =
    let m : suc (byte_at k n) * 256 ^ k ≤ 256 * 256 ^ k = mul-le-mul_right (256 ^ k) (byte_at-below k n) in
    omega (arith, m, suc-mul (byte_at k n) (256 ^ k), pow-suc 256 k, low-below k n)

-- a higher digit decides, and else the rest
pub digits : (x y p a b : ℕ) (r s : Ordering) → MatchOrdering r (x < y) (x ≡ y) (y < x) → MatchOrdering s (a < b) (a ≡ b) (b < a) → a < p → b < p → MatchOrdering (ordering_then r s) (x * p + a < y * p + b) (x * p + a ≡ y * p + b) (y * p + b < x * p + a)
digits x y p a b Less s h k ha hb = let m : suc x * p ≤ y * p = mul-le-mul_right p h in omega (arith, m, suc-mul x p)
digits x y p a b Greater s h k ha hb = let m : suc y * p ≤ x * p = mul-le-mul_right p h in omega (arith, m, suc-mul y p)
digits x y p a b Equal Less h k ha hb = let e : x * p ≡ y * p = ap (λ n. n * p) h in omega (arith, e)
digits x y p a b Equal Equal h k ha hb = ap₂ (λ n m. n * p + m) h k
digits x y p a b Equal Greater h k ha hb = let e : x * p ≡ y * p = ap (λ n. n * p) h in omega (arith, e)

bytes_cmp : (k n m : ℕ) → slice_cmp nat_cmp (bytes_high_first k n) (bytes_high_first k m) ≡ nat_cmp (low k n) (low k m)
unfolding low
bytes_cmp zero n m = refl
bytes_cmp (suc k) n m =
    let r = nat_cmp (byte_at k n) (byte_at k m) in
    let s = nat_cmp (low k n) (low k m) in
    ap (ordering_then r) (bytes_cmp k n m) ∙ nat_cmp_is (byte_at k n * 256 ^ k + low k n) (byte_at k m * 256 ^ k + low k m) (ordering_then r s)
    (digits (byte_at k n) (byte_at k m) (256 ^ k) (low k n) (low k m) r s (ranked (byte_at k n) (byte_at k m) r refl) (ranked (low k n) (low k m) s refl) (low-below k n) (low-below k m))

low_8 : (n : ℕ) → n < 2 ^ 64 → low 8 n ≡ n
unfolding low
low_8 n h = let e : from_be_bytes w64 (to_be_bytes w64 n) ≡ n = from_be_bytes-to_be_bytes_8 n h in omega (arith, e)

-- numbers below 2^64 are in the order of their bytes
number_cmp : (n m : ℕ) → n < 2 ^ 64 → m < 2 ^ 64 → slice_cmp nat_cmp (to_be_bytes w64 n) (to_be_bytes w64 m) ≡ nat_cmp n m
number_cmp n m h k = bytes_cmp 8 n m ∙ ap₂ nat_cmp (low_8 n h) (low_8 m k)

then_assoc : (r s t : Ordering) → ordering_then (ordering_then r s) t ≡ ordering_then r (ordering_then s t)
then_assoc Less s t = refl
then_assoc Equal s t = refl
then_assoc Greater s t = refl

-- of two pairs of lists the first lists decide, where these are as long as each other
append_cmp : (xs ys us vs : List ℕ) → length xs ≡ length us → slice_cmp nat_cmp (xs ++ ys) (us ++ vs) ≡ ordering_then (slice_cmp nat_cmp xs us) (slice_cmp nat_cmp ys vs)
append_cmp [] ys [] vs e = refl
append_cmp [] ys (u ∷ us) vs e = cc
append_cmp (x ∷ xs) ys [] vs e = cc
append_cmp (x ∷ xs) ys (u ∷ us) vs e = ap (ordering_then (nat_cmp x u)) (append_cmp xs ys us vs (omega (arith, e))) ∙ sym (then_assoc (nat_cmp x u) (slice_cmp nat_cmp xs us) (slice_cmp nat_cmp ys vs))

pub bytes_order : (x y : Pair) → IsPairValue x → IsPairValue y → pair_cmp x y ≡ slice_cmp nat_cmp (pair_bytes x) (pair_bytes y)
bytes_order x y h k =
    sym (append_cmp (to_be_bytes w64 x.key) (to_be_bytes w64 x.value) (to_be_bytes w64 y.key) (to_be_bytes w64 y.value) refl ∙ ap₂ ordering_then (number_cmp x.key y.key h.0 k.0) (number_cmp x.value y.value h.1 k.1))

-- what it says that the answer of one comparison and then another is Less
then_less : (a b c d : ℕ) (r s : Ordering) → MatchOrdering r (a < b) (a ≡ b) (b < a) → MatchOrdering s (c < d) (c ≡ d) (d < c) → ordering_then r s ≡ Less → (a < b) ⊎ ((a ≡ b) × (c < d))
then_less a b c d Less s h k e = inl h
then_less a b c d Equal Less h k e = inr (h, k)
then_less a b c d Equal Equal h k e = cc
then_less a b c d Equal Greater h k e = cc
then_less a b c d Greater s h k e = cc

less_then : (a b c d : ℕ) (r s : Ordering) → MatchOrdering r (a < b) (a ≡ b) (b < a) → MatchOrdering s (c < d) (c ≡ d) (d < c) → (a < b) ⊎ ((a ≡ b) × (c < d)) → ordering_then r s ≡ Less
less_then a b c d Less s h k before = refl
less_then a b c d Equal Less h k before = refl
less_then a b c d Equal Equal h k (inl l) = absurd (omega arith)
less_then a b c d Equal Equal h k (inr (e, l)) = absurd (omega arith)
less_then a b c d Equal Greater h k (inl l) = absurd (omega arith)
less_then a b c d Equal Greater h k (inr (e, l)) = absurd (omega arith)
less_then a b c d Greater s h k (inl l) = absurd (omega arith)
less_then a b c d Greater s h k (inr (e, l)) = absurd (omega arith)

pub less_is_before : (x y : Pair) → pair_cmp x y ≡ Less → (x.key < y.key) ⊎ ((x.key ≡ y.key) × (x.value < y.value))
less_is_before x y = then_less x.key y.key x.value y.value (nat_cmp x.key y.key) (nat_cmp x.value y.value) (ranked x.key y.key _ refl) (ranked x.value y.value _ refl)

pub before_is_less : (x y : Pair) → (x.key < y.key) ⊎ ((x.key ≡ y.key) × (x.value < y.value)) → pair_cmp x y ≡ Less
before_is_less x y = less_then x.key y.key x.value y.value (nat_cmp x.key y.key) (nat_cmp x.value y.value) (ranked x.key y.key _ refl) (ranked x.value y.value _ refl)
