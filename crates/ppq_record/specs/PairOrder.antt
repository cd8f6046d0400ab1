-- What the order of pairs means.
use Rattle.std.specs.Prelude.{◌≡◌, ◌<◌, ◌⊎◌, ◌↔◌}
use Rattle.std.specs.declared.cmp.Ordering.{Ordering}
use Rattle.std.specs.declared.cmp.Ordering.TheVariants.{Less}
use Rattle.std.specs.Ordering.{nat_cmp}
use Rattle.std.specs.Cmp.Lexicographic.{slice_cmp}
use Rattle.ppq_record.specs.declared.pair.Pair.{Pair}
use Rattle.ppq_record.specs.Pair.{IsPairValue, pair_bytes}

-- the key decides, and then the value; and of two pairs that one is first whose bytes are, where the first byte that differs decides
pub record IsPairOrder (cmp : Pair → Pair → Ordering) : Type 0 where
  pub by_key : (x y : Pair) → (cmp x y ≡ Less) ↔ ((x.key < y.key) ⊎ ((x.key ≡ y.key) × (x.value < y.value)))
  pub by_bytes : (x y : Pair) → IsPairValue x → IsPairValue y → cmp x y ≡ slice_cmp nat_cmp (pair_bytes x) (pair_bytes y)
