-- Records whose bytes are numbers of eight bytes, the highest byte first.
use Rattle.std.specs.Prelude.{◌≡◌, ℕ, ◌*◌, ◌<◌, ◌^◌, Bool, true, false, List, length, flat_map}
use Rattle.std.specs.declared.cmp.Ordering.{Ordering}
use Rattle.std.specs.Ordering.{nat_cmp}
use Rattle.std.specs.Cmp.Lexicographic.{slice_cmp}
use Rattle.std.specs.List.{AllByRecursion as Each}
use Rattle.std.specs.Int.{w64, to_be_bytes}

-- the order of lists of fields: the first one that differs decides, the lesser one going first, or, in the order down, the greater one
abbrev pub fields_cmp : Bool → List ℕ → List ℕ → Ordering
fields_cmp false xs ys = slice_cmp nat_cmp xs ys
fields_cmp true xs ys = slice_cmp nat_cmp ys xs

-- A record is its fields, so many of eight bytes, and its bytes and its order are theirs
pub record AreFields {R : Type 0} (fields : ℕ) (is_down : Bool) (bytes : ℕ) (is_value : R → Type 0) (bytes_of : R → List ℕ) (cmp : R → R → Ordering) (fields_of : R → List ℕ) (of_fields : List ℕ → R) : Type 0 where
  pub width : bytes ≡ 8 * fields
  pub count : (r : R) → length (fields_of r) ≡ fields
  pub small : (r : R) → is_value r → Each (λ n. n < 2 ^ 64) (fields_of r)
  pub back : (r : R) → is_value r → of_fields (fields_of r) ≡ r
  pub own : (f : List ℕ) → length f ≡ fields → fields_of (of_fields f) ≡ f
  pub encoded : (r : R) → bytes_of r ≡ flat_map (to_be_bytes w64) (fields_of r)
  pub order : (x y : R) → cmp x y ≡ fields_cmp is_down (fields_of x) (fields_of y)
