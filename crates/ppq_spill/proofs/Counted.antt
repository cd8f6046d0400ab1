-- Records of runs that are counted one run after the other.
use Rattle.std.proofs.Common.{ℕ, zero, suc, ◌+◌, ◌<◌, ◌≤◌, List, [], ◌∷◌, length, take, slice_index_or, ap, arith, length-append}
use Rattle.std.proofs.lemmas.List.Concat.{flat_map-cons}
use Rattle.ppq_fetch.specs.ppq_array.Run.{Run, items_of}
use Rattle.ppq_fetch.specs.ppq_array.Holdings.{internal_items}

pub take_fits : {R : Type 0} (xs : List (Run R)) (i : ℕ) (d : Run R) → i < length xs → length (internal_items (take i xs)) + length (items_of (slice_index_or xs i d)) ≤ length (internal_items xs)
take_fits [] i d h = absurd (omega arith)
take_fits (x ∷ xs) zero d h = omega (arith, ap length (flat_map-cons items_of x xs), length-append (items_of x) (internal_items xs))
take_fits (x ∷ xs) (suc i) d h =
    omega (
      arith,
      ap length (flat_map-cons items_of x xs),
      length-append (items_of x) (internal_items xs),
      ap length (flat_map-cons items_of x (take i xs)),
      length-append (items_of x) (internal_items (take i xs)),
      take_fits xs i d (omega arith),
    )
