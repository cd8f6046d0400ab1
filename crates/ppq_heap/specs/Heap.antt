-- What an insertion heap holds, and the order in which it lies.
use Rattle.std.specs.Prelude.{◌≡◌, ℕ, ◌-◌, ◌/◌, ◌<◌, Bool, List, length, get_or}
use Rattle.ppq_tree.specs.ppq_record.Order.{Le}

-- the records of an insertion heap as they lie, and how many it has room for
pub record Contents (R : Type 0) : Type 0 where
  pub items : List R
  pub cap : ℕ

-- no record stands before its parent; the children of place p are the places 2p + 1 and 2p + 2
unfoldable pub IsMinHeap : {X : Type 0} → (X → X → Bool) → List X → Type 0
IsMinHeap {X} lt xs = (k : ℕ) (d : X) → 0 < k → k < length xs → Le lt (get_or xs ((k - 1) / 2) d) (get_or xs k d)

-- the same round a hole, whose own record counts for nothing: what is below the hole is not before what is above it
pub record IsHeapRound {X : Type 0} (lt : X → X → Bool) (xs : List X) (hole : ℕ) : Type 0 where
  pub others : (k : ℕ) (d : X) → 0 < k → k < length xs → (k ≡ hole → ⊥) → ((k - 1) / 2 ≡ hole → ⊥) → Le lt (get_or xs ((k - 1) / 2) d) (get_or xs k d)
  pub across : (k : ℕ) (d : X) → 0 < k → k < length xs → (k - 1) / 2 ≡ hole → 0 < hole → Le lt (get_or xs ((hole - 1) / 2) d) (get_or xs k d)

-- no child of the parent is before the record at a place
abbrev pub IsLesserChild : {X : Type 0} → (X → X → Bool) → List X → ℕ → ℕ → Type 0
IsLesserChild {X} lt xs parent child = (k : ℕ) (d : X) → 0 < k → k < length xs → (k - 1) / 2 ≡ parent → Le lt (get_or xs child d) (get_or xs k d)
