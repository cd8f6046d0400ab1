-- Records that were put as bytes and are taken back.
use Rattle.std.proofs.Common.{◌≡◌, ℕ, suc, List, [], ◌∷◌, ◌++◌, length, take, drop, flat_map, All, refl, ap, ap₂, ◌∙◌, append_assoc, arith}
use Rattle.std.proofs.lemmas.List.{take_at, drop_at}
use Rattle.std.proofs.lemmas.List.Concat.{flat_map-cons}
use Rattle.ppq_record.specs.Given.{records_from}

pub records_from-flat_map :
    {R : Type 0} (IsValue : R → Type 0) (bytes_of : R → List ℕ) (record_of : List ℕ → R) (width : ℕ)
    → ((r : R) → length (bytes_of r) ≡ width) → ((r : R) → IsValue r → record_of (bytes_of r) ≡ r)
    → (items : List R) (rest : List ℕ) → All IsValue items
    → records_from record_of width (length items) (flat_map bytes_of items ++ rest) ≡ items
records_from-flat_map IsValue bytes_of record_of width long back [] rest all = refl
records_from-flat_map {R} IsValue bytes_of record_of width long back (x ∷ xs) rest all =
    let whole : flat_map bytes_of (x ∷ xs) ++ rest ≡ bytes_of x ++ (flat_map bytes_of xs ++ rest) = ap (λ b. b ++ rest) (flat_map-cons bytes_of x xs) ∙ append_assoc (bytes_of x) (flat_map bytes_of xs) rest in
    let head : record_of (take width (flat_map bytes_of (x ∷ xs) ++ rest)) ≡ x = ap (λ b. record_of (take width b)) whole ∙ ap record_of (take_at (bytes_of x) (flat_map bytes_of xs ++ rest) width (long x)) ∙ back x (all 0 x (omega arith)) in
    let tail : drop width (flat_map bytes_of (x ∷ xs) ++ rest) ≡ flat_map bytes_of xs ++ rest = ap (drop width) whole ∙ drop_at (bytes_of x) (flat_map bytes_of xs ++ rest) width (long x) in
    ap₂ (λ (y : R) (ys : List R). y ∷ ys) head (ap (λ b. records_from record_of width (length xs) b) tail ∙ records_from-flat_map IsValue bytes_of record_of width long back xs rest (λ k d h. all (suc k) d (omega arith)))
