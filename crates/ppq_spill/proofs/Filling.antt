-- Records that go into buffers, in order.
use Rattle.std.proofs.Common.{◌≡◌, ℕ, zero, suc, ◌+◌, ◌*◌, ◌<◌, ◌≤◌, ap, ◌∙◌, arith}
use Rattle.std.proofs.Math.Nat.{suc-mul}

-- a product of a sum
pub sum_times : (a k b : ℕ) → (a + k) * b ≡ a * b + k * b
sum_times zero k b = let e : zero + k ≡ k = omega arith in let z : zero * b ≡ 0 = omega arith in ap (λ n. n * b) e ∙ (let s : k * b ≡ zero * b + k * b = omega (arith, z) in s)
sum_times (suc a) k b =
    let e : suc a + k ≡ suc (a + k) = omega arith in
    ap (λ n. n * b) e ∙ (let s : suc (a + k) * b ≡ suc a * b + k * b = omega (arith, suc-mul (a + k) b, suc-mul a b, sum_times a k b) in s)

-- more buffers have room for at least one more block
pub at_least_one : (k b : ℕ) → 0 < k → b ≤ k * b
at_least_one zero b h = absurd (omega arith)
at_least_one (suc k) b h = omega (arith, suc-mul k b)
