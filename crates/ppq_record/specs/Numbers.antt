-- Numbers of eight bytes, the highest byte first, as the fields of records have them.
use Rattle.std.proofs.Common.{◌≡◌, ℕ, ◌+◌, ◌-◌, ◌<◌, ◌≤◌, List, [], ◌∷◌, length, take, get_or, All, refl, sym, ap, ap₂, arith, Ordering, zero, suc, length-take, get_or-take, lit<}
use Rattle.std.proofs.lemmas.List.Elements.{All-take}
use Rattle.std.specs.declared.cmp.Ordering.TheVariants.{Less, Equal, Greater}
use Rattle.std.specs.Int.{w64, to_be_bytes, from_be_bytes, sum_through, byte_worth}
use Rattle.std.specs.Ordering.{ordering_then}
use Rattle.std.proofs.lemmas.Nat.{be_bytes_8}

sum_through-same : (f g : ℕ → ℕ) (n : ℕ) → ((i : ℕ) → i ≤ n → f i ≡ g i) → sum_through f n ≡ sum_through g n
sum_through-same f g zero same = same 0 (omega arith)
sum_through-same f g (suc n) same = ap₂ (λ (a b : ℕ). a + b) (sum_through-same f g n (λ i h. same i (omega arith))) (same (suc n) (omega arith))

-- only the first eight bytes count
from_be_bytes-take : (b : List ℕ) → from_be_bytes w64 b ≡ from_be_bytes w64 (take 8 b)
from_be_bytes-take b = sum_through-same (λ i. byte_worth (7 - i) (get_or b i 0)) (λ i. byte_worth (7 - i) (get_or (take 8 b) i 0)) 7 (λ i h. ap (byte_worth (7 - i)) (sym (get_or-take 8 b i 0 (omega arith))))

byte_at_each : (b : List ℕ) → All (λ x. x < 256) b → (i : ℕ) → get_or b i 0 < 256
byte_at_each [] below i = lit< tt
byte_at_each (x ∷ xs) below zero = below 0 0 (omega arith)
byte_at_each (x ∷ xs) below (suc i) = byte_at_each xs (λ k d h. below (suc k) d (omega arith)) i

-- the first eight of at least eight bytes are those of the number that they stand for
pub first_number_put_take : (b : List ℕ) → 8 ≤ length b → All (λ x. x < 256) b → to_be_bytes w64 (from_be_bytes w64 b) ≡ take 8 b
first_number_put_take b long below = be_bytes_8 (take 8 b) (from_be_bytes w64 b) (omega (arith, length-take {A = ℕ})) (byte_at_each (take 8 b) (All-take (λ x. x < 256) 8 b below)) (from_be_bytes-take b)

-- eight bytes are those of the number that they stand for
pub last_number_put_take : (b : List ℕ) → length b ≡ 8 → All (λ x. x < 256) b → to_be_bytes w64 (from_be_bytes w64 b) ≡ b
last_number_put_take b long below = be_bytes_8 b (from_be_bytes w64 b) (omega arith) (byte_at_each b below) refl

-- two comparisons in a row say equal only if both do
pub then_equal : (r s : Ordering) → ordering_then r s ≡ Equal → (r ≡ Equal) × (s ≡ Equal)
then_equal Less s e = cc
then_equal Equal s e = (refl, e)
then_equal Greater s e = cc
