-- A triple as a record of twenty-four bytes.
use Rattle.std.proofs.Common.{◌≡◌, ℕ, ◌<◌, ◌^◌, List, ◌++◌, length, drop, All, sym, ap, ap₂, ◌∙◌, arith, Ordering, take-append-drop, length-drop}
use Rattle.std.proofs.lemmas.List.{drop-drop}
use Rattle.std.proofs.lemmas.List.Elements.{All-drop}
use Rattle.std.specs.declared.cmp.Ordering.TheVariants.{Equal}
use Rattle.std.specs.Int.{w64, to_be_bytes, from_be_bytes}
use Rattle.std.specs.Ordering.{nat_cmp, on, then_cmp}
use Rattle.std.proofs.lemmas.Cmp.{ranked}
use Rattle.std.proofs.lemmas.Nat.{from_be_bytes-to_be_bytes_8}
use Rattle.ppq_record.specs.Numbers.{first_number_put_take, last_number_put_take, then_equal}
use Rattle.ppq_record.specs.declared.triple.Triple.{Triple}

-- all three numbers fit in eight bytes
abbrev pub IsTripleValue : Triple → Type 0
IsTripleValue t = (t.time < 2 ^ 64) × (t.target < 2 ^ 64) × (t.word < 2 ^ 64)

-- the time, the target and then the word, the highest byte first
abbrev pub triple_bytes : Triple → List ℕ
triple_bytes t = to_be_bytes w64 t.time ++ (to_be_bytes w64 t.target ++ to_be_bytes w64 t.word)

-- the first eight bytes are the time, the next eight the target, the last eight the word
abbrev pub triple_of : List ℕ → Triple
triple_of b = record { time = from_be_bytes w64 b; target = from_be_bytes w64 (drop 8 b); word = from_be_bytes w64 (drop 16 b) }

-- the order of triples: by time, then by target, and then by word
abbrev pub triple_cmp : Triple → Triple → Ordering
triple_cmp = then_cmp (on (λ t. t.time) nat_cmp) (then_cmp (on (λ t. t.target) nat_cmp) (on (λ t. t.word) nat_cmp))

-- triples of equal fields are equal
same_fields : {t t' g g' w w' : ℕ} → t ≡ t' → g ≡ g' → w ≡ w' → (let q : Triple = record { time = t; target = g; word = w } in q) ≡ record { time = t'; target = g'; word = w' }
same_fields {t} {t'} {g} {g'} {w} {w'} et eg ew =
    ap (λ n. let q : Triple = record { time = n; target = g; word = w } in q) et ∙ ap₂ (λ n m. let q : Triple = record { time = t'; target = n; word = m } in q) eg ew

pub triple_take_put : (t : Triple) → IsTripleValue t → triple_of (triple_bytes t) ≡ t
triple_take_put t value = same_fields (from_be_bytes-to_be_bytes_8 t.time value.0) (from_be_bytes-to_be_bytes_8 t.target value.1) (from_be_bytes-to_be_bytes_8 t.word value.2)

pub triple_put_take : (b : List ℕ) → length b ≡ 24 → All (λ x. x < 256) b → triple_bytes (triple_of b) ≡ b
triple_put_take b long below =
    let rest : List ℕ = drop 8 b in
    let rest_long : length rest ≡ 16 = omega (arith, length-drop {A = ℕ}) in
    let rest_below : All (λ x. x < 256) rest = All-drop (λ x. x < 256) 8 b below in
    let last : drop 8 rest ≡ drop 16 b = drop-drop 8 8 b in
    let word : to_be_bytes w64 (from_be_bytes w64 (drop 8 rest)) ≡ drop 8 rest = last_number_put_take (drop 8 rest) (omega (arith, length-drop 8 rest, rest_long)) (All-drop (λ x. x < 256) 8 rest rest_below) in
    let tail : to_be_bytes w64 (from_be_bytes w64 rest) ++ to_be_bytes w64 (from_be_bytes w64 (drop 8 rest)) ≡ rest = ap₂ (λ (x y : List ℕ). x ++ y) (first_number_put_take rest (omega (arith, rest_long)) rest_below) word ∙ take-append-drop 8 rest in
    let moved : to_be_bytes w64 (from_be_bytes w64 rest) ++ to_be_bytes w64 (from_be_bytes w64 (drop 16 b)) ≡ rest = ap (λ (x : List ℕ). to_be_bytes w64 (from_be_bytes w64 rest) ++ to_be_bytes w64 (from_be_bytes w64 x)) (sym last) ∙ tail in
    ap₂ (λ (x y : List ℕ). x ++ y) (first_number_put_take b (omega arith) below) moved ∙ take-append-drop 8 b

pub triple_same : (x y : Triple) → triple_cmp x y ≡ Equal → x ≡ y
triple_same x y e =
    let first = then_equal (nat_cmp x.time y.time) _ e in
    let rest = then_equal (nat_cmp x.target y.target) (nat_cmp x.word y.word) first.1 in
    same_fields (ranked x.time y.time Equal (sym first.0)) (ranked x.target y.target Equal (sym rest.0)) (ranked x.word y.word Equal (sym rest.1))
