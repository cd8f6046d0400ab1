-- A pair as a record of sixteen bytes.
use Rattle.std.proofs.Common.{◌≡◌, ℕ, ◌<◌, ◌^◌, List, ◌++◌, length, drop, All, sym, ap₂, ◌∙◌, arith, Ordering, take-append-drop, length-drop}
use Rattle.std.proofs.lemmas.List.Elements.{All-drop}
use Rattle.std.specs.declared.cmp.Ordering.TheVariants.{Equal}
use Rattle.std.specs.Int.{w64, to_be_bytes, from_be_bytes}
use Rattle.std.specs.Ordering.{nat_cmp, on, then_cmp}
use Rattle.std.proofs.lemmas.Cmp.{ranked}
use Rattle.std.proofs.lemmas.Nat.{from_be_bytes-to_be_bytes_8}
use Rattle.ppq_record.specs.Numbers.{first_number_put_take, last_number_put_take, then_equal}
use Rattle.ppq_record.specs.declared.pair.Pair.{Pair}

-- both numbers fit in eight bytes
abbrev pub IsPairValue : Pair → Type 0
IsPairValue p = (p.key < 2 ^ 64) × (p.value < 2 ^ 64)

-- the key and then the value, the highest byte first
abbrev pub pair_bytes : Pair → List ℕ
pair_bytes p = to_be_bytes w64 p.key ++ to_be_bytes w64 p.value

-- the first eight bytes are the key, the next eight the value
abbrev pub pair_of : List ℕ → Pair
pair_of b = record { key = from_be_bytes w64 b; value = from_be_bytes w64 (drop 8 b) }

pub pair_take_put : (p : Pair) → IsPairValue p → pair_of (pair_bytes p) ≡ p
pair_take_put p value = ap₂ (λ (k v : ℕ). let q : Pair = record { key = k; value = v } in q) (from_be_bytes-to_be_bytes_8 p.key value.0) (from_be_bytes-to_be_bytes_8 p.value value.1)

pub pair_put_take : (b : List ℕ) → length b ≡ 16 → All (λ x. x < 256) b → pair_bytes (pair_of b) ≡ b
pair_put_take b len below =
    ap₂ (λ (x y : List ℕ). x ++ y) (first_number_put_take b (omega arith) below) (last_number_put_take (drop 8 b) (omega (arith, length-drop {A = ℕ})) (All-drop (λ x. x < 256) 8 b below)) ∙ take-append-drop 8 b

pub pair_same : (x y : Pair) → then_cmp (on (λ p. p.key) nat_cmp) (on (λ p. p.value) nat_cmp) x y ≡ Equal → x ≡ y
pair_same x y e =
    let both = then_equal (nat_cmp x.key y.key) (nat_cmp x.value y.value) e in
    ap₂ (λ (k v : ℕ). let q : Pair = record { key = k; value = v } in q) (ranked x.key y.key Equal (sym both.0)) (ranked x.value y.value Equal (sym both.1))

-- the order of pairs: by key, and then by value
abbrev pub pair_cmp : Pair → Pair → Ordering
pair_cmp = then_cmp (on (λ p. p.key) nat_cmp) (on (λ p. p.value) nat_cmp)
