-- A number of one byte as a record.
use Rattle.std.proofs.Common.{◌≡◌, ℕ, ◌<◌, List, [], ◌∷◌, length, get_or, All, refl, sym, ap, arith}
use Rattle.std.specs.declared.cmp.Ordering.TheVariants.{Equal}
use Rattle.std.specs.Ordering.{nat_cmp, on}
use Rattle.std.proofs.lemmas.Cmp.{ranked}
use Rattle.ppq_session_tests.specs.declared.short.Short.{Short}

-- the number of so many bytes
abbrev pub short_of : List ℕ → Short
short_of b = record { value = get_or b 0 0 }

-- its byte
abbrev pub short_bytes : Short → List ℕ
short_bytes r = r.value ∷ []

pub short_put_take : (b : List ℕ) → length b ≡ 1 → All (λ x. x < 256) b → short_bytes (short_of b) ≡ b
short_put_take [] e below = absurd (omega (arith, e))
short_put_take (x ∷ []) e below = refl
short_put_take (x ∷ y ∷ b) e below = absurd (omega (arith, e))

pub short_same : (x y : Short) → on (λ r. r.value) nat_cmp x y ≡ Equal → x ≡ y
short_same x y e = ap (λ (v : ℕ). let r : Short = record { value = v } in r) (ranked x.value y.value Equal (sym e))
