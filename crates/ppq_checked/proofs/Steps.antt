-- A step of a lane can be undone: it tells the lane where the number is known, and the number where the lane is.
use Rattle.std.proofs.Common.{◌≡◌, ℕ, ◌+◌, ◌*◌, ◌/◌, ◌%◌, ◌^◌, ◌<◌, sym, ap, ◌∙◌, arith}
use Rattle.std.specs.Int.{w64, rotate_left}
use Rattle.std.specs.Int.Bits.{bit_xor, xor_assoc, xor_self, xor_zero_l}
use Rattle.std.proofs.lemmas.Nat.{or_shifted, xor_lt, xor_comm, mul-mod_first, mod-mul-add}
use Rattle.ppq_checked.specs.Sums.{with_number}

xor_twice : (a b : ℕ) → bit_xor a (bit_xor a b) ≡ b
xor_twice a b = sym (xor_assoc a a b) ∙ ap (λ (x : ℕ). bit_xor x b) (xor_self a) ∙ xor_zero_l b

xor_same : (a b c : ℕ) → bit_xor a b ≡ bit_xor a c → b ≡ c
xor_same a b c same = sym (xor_twice a b) ∙ ap (λ (x : ℕ). bit_xor a x) same ∙ xor_twice a c

-- the product by the factor, undone by its inverse
times_back : (x : ℕ) → x < 2 ^ 64 → (x * 11400714819323198485 % 2 ^ 64) * 17428512612931826493 % 2 ^ 64 ≡ x
times_back x below =
    let long : x * 11400714819323198485 * 17428512612931826493 ≡ x * 10771413168148108919 * 2 ^ 64 + x = omega arith in
    mul-mod_first (x * 11400714819323198485) 17428512612931826493 (2 ^ 64) ∙ ap (λ (n : ℕ). n % 2 ^ 64) long ∙ mod-mul-add (x * 10771413168148108919) (2 ^ 64) x below

turned : (x : ℕ) → x < 2 ^ 64 → rotate_left w64 x 29 ≡ x % 2 ^ 35 * 2 ^ 29 + x / 2 ^ 35
turned x below =
    let high : x * 2 ^ 29 % 2 ^ 64 ≡ x % 2 ^ 35 * 2 ^ 29 = omega arith in
    let low : x / 2 ^ 35 < 2 ^ 29 = omega arith in
    rw high (or_shifted (x % 2 ^ 35) 29 (x / 2 ^ 35) low)

turned_same : (x y : ℕ) → x < 2 ^ 64 → y < 2 ^ 64 → rotate_left w64 x 29 ≡ rotate_left w64 y 29 → x ≡ y
turned_same x y xs ys same =
    let both : x % 2 ^ 35 * 2 ^ 29 + x / 2 ^ 35 ≡ y % 2 ^ 35 * 2 ^ 29 + y / 2 ^ 35 = sym (turned x xs) ∙ same ∙ turned y ys in
    omega arith

-- the turned product of a number says which one it was
step_same : (x y : ℕ) → x < 2 ^ 64 → y < 2 ^ 64 → rotate_left w64 (x * 11400714819323198485 % 2 ^ 64) 29 ≡ rotate_left w64 (y * 11400714819323198485 % 2 ^ 64) 29 → x ≡ y
step_same x y xs ys same =
    let p : x * 11400714819323198485 % 2 ^ 64 < 2 ^ 64 = omega arith in
    let q : y * 11400714819323198485 % 2 ^ 64 < 2 ^ 64 = omega arith in
    let e : x * 11400714819323198485 % 2 ^ 64 ≡ y * 11400714819323198485 % 2 ^ 64 = turned_same (x * 11400714819323198485 % 2 ^ 64) (y * 11400714819323198485 % 2 ^ 64) p q same in
    sym (times_back x xs) ∙ ap (λ (n : ℕ). n * 17428512612931826493 % 2 ^ 64) e ∙ times_back y ys

pub number_is_noticed : (lane one other : ℕ) → lane < 2 ^ 64 → one < 2 ^ 64 → other < 2 ^ 64 → with_number lane one ≡ with_number lane other → one ≡ other
unfolding with_number
number_is_noticed lane one other l m n same =
    xor_same lane one other (step_same (bit_xor lane one) (bit_xor lane other) (xor_lt 64 lane one l m) (xor_lt 64 lane other l n) same)

pub lane_is_noticed : (one other number : ℕ) → one < 2 ^ 64 → other < 2 ^ 64 → number < 2 ^ 64 → with_number one number ≡ with_number other number → one ≡ other
unfolding with_number
lane_is_noticed one other number l m n same =
    let swapped : bit_xor number one ≡ bit_xor number other = xor_comm number one ∙ step_same (bit_xor one number) (bit_xor other number) (xor_lt 64 one number l n) (xor_lt 64 other number m n) same ∙ xor_comm other number in
    xor_same number one other swapped

pub step_below : (lane number : ℕ) → with_number lane number < 2 ^ 64
unfolding with_number
step_below lane number =
    let product : bit_xor lane number * 11400714819323198485 % 2 ^ 64 < 2 ^ 64 = omega arith in
    let is = turned (bit_xor lane number * 11400714819323198485 % 2 ^ 64) product in
    rw is (omega arith)
