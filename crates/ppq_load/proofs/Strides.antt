-- Many steps of the generator at once: n steps are a multiplication and a sum.
use Rattle.std.proofs.Common.{◌≡◌, ℕ, zero, suc, ◌+◌, ◌*◌, ◌/◌, ◌%◌, ◌^◌, refl, sym, ap, ◌∙◌, arith}
use Rattle.std.proofs.lemmas.Nat.{mul-mod_first, mul-mod_second}
use Rattle.std.proofs.Math.Nat.{mod-add-mod, add-mod-mod}
use Rattle.ppq_record.specs.Given.{next_seed}
use Rattle.ppq_load.specs.Given.{seed_after}

-- n steps are a multiplication and a sum
abbrev pub IsStride : ℕ → ℕ → ℕ → Type 0
IsStride n factor shift = (x : ℕ) → seed_after x n ≡ (x * factor + shift) % 2 ^ 64

-- steps one after the other
pub after-append : (x m n : ℕ) → seed_after (seed_after x m) n ≡ seed_after x (m + n)
after-append x zero n = let e : n ≡ zero + n = omega arith in ap (seed_after x) e
after-append x (suc m) n = let e : suc (m + n) ≡ suc m + n = omega arith in after-append (next_seed x) m n ∙ ap (seed_after x) e

-- one step
pub stride-one : IsStride 1 6364136223846793005 1442695040888963407
stride-one x = refl

-- a remainder in the first factor, and one in the second
product_first : (a b c m : ℕ) → (a % m * b + c) % m ≡ (a * b + c) % m
product_first a b c m = sym (mod-add-mod (a % m * b) m c) ∙ ap (λ n. (n + c) % m) (mul-mod_first a b m) ∙ mod-add-mod (a * b) m c

product_second : (a b c m : ℕ) → (a * (b % m) + c) % m ≡ (a * b + c) % m
product_second a b c m = sym (mod-add-mod (a * (b % m)) m c) ∙ ap (λ n. (n + c) % m) (mul-mod_second a b m) ∙ mod-add-mod (a * b) m c

expand : (x f s : ℕ) → (x * f + s) * f + s ≡ x * (f * f) + (s * f + s)
expand x f s = grind arith

-- twice as many
pub stride-two : (n f s : ℕ) → IsStride n f s → IsStride (n + n) (f * f % 2 ^ 64) ((s * f + s) % 2 ^ 64)
stride-two n f s is x =
    sym (after-append x n n) ∙ ap (λ y. seed_after y n) (is x) ∙ is ((x * f + s) % 2 ^ 64) ∙ product_first (x * f + s) f s (2 ^ 64) ∙ ap (λ y. y % 2 ^ 64) (expand x f s)
    ∙ sym (product_second x (f * f) (s * f + s) (2 ^ 64)) ∙ sym (add-mod-mod (x * (f * f % 2 ^ 64)) (s * f + s) (2 ^ 64))

odd_steps : (q n : ℕ) → (q * 2 + 1) * n ≡ n + q * (n + n)
odd_steps q n = grind arith

even_steps : (q n : ℕ) → q * 2 * n ≡ q * (n + n)
even_steps q n = grind arith

-- an odd number of strides is one and half of the rest, each twice as long
pub left-odd : (n f s x left : ℕ) → IsStride n f s → left % 2 ≡ 1 → seed_after ((x * f + s) % 2 ^ 64) (left / 2 * (n + n)) ≡ seed_after x (left * n)
left-odd n f s x left is odd =
    let whole : left ≡ left / 2 * 2 + 1 = omega (arith, odd) in
    ap (λ y. seed_after y (left / 2 * (n + n))) (sym (is x)) ∙ after-append x n (left / 2 * (n + n)) ∙ ap (seed_after x) (sym (odd_steps (left / 2) n) ∙ ap (λ l. l * n) (sym whole))

-- and an even one is half as many
pub left-even : (n x left : ℕ) → left % 2 ≡ 0 → seed_after x (left / 2 * (n + n)) ≡ seed_after x (left * n)
left-even n x left even =
    let whole : left ≡ left / 2 * 2 = omega (arith, even) in
    ap (seed_after x) (sym (even_steps (left / 2) n) ∙ ap (λ l. l * n) (sym whole))
