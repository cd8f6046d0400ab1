-- The first records of runs and of a list, in a tree of minima, and the smallest of them.
use Rattle.std.specs.Prelude.{◌≡◌, ◌⊎◌, ℕ, zero, suc, ◌<◌, ◌≤◌, ⊤, List, [], ◌∷◌, length, drop, get_or, Option, Some, None, IsSome, slice_index_or, All}
use Rattle.std.specs.declared.cmp.Ordering.{Ordering}
use Rattle.ppq_fetch.specs.ppq_record.Order.{Le, is_before}
use Rattle.ppq_fetch.specs.ppq_record.Bag.{first_of}
use Rattle.ppq_fetch.specs.ppq_array.Run.{Run, items_of}

module _ {R : Type 0} where
  -- the first record of the run at a place; after all runs that of a list; and none after that
  abbrev pub first_at : List (Run R) → List R → ℕ → Option R
  first_at [] rest zero = first_of rest
  first_at [] rest (suc i) = None
  first_at (run ∷ runs) rest zero = first_of (items_of run)
  first_at (run ∷ runs) rest (suc i) = first_at runs rest i

  -- each leaf of the tree has the first record of its run; the leaf after them that of the list; and the others none
  abbrev pub HasHeads : List (Run R) → List R → List (Option R) → Type 0
  HasHeads runs rest tree = (leaf : ℕ) → get_or tree leaf None ≡ first_at runs rest leaf

  -- a list from a place on, and runs beside it, are merged by a tree that has a leaf for each of them
  pub record OnTree (sorted : List R) (at : ℕ) (runs : List (Run R)) (tree : List (Option R)) : Type 0 where
    pub within : at ≤ length sorted
    pub leaves : length runs < length tree
    pub heads : HasHeads runs (drop at sorted) tree

module _ {R : Type 0} (cmp : R → R → Ordering) where
  -- there is no such record, or the other is there and not after it
  abbrev pub NotBefore : Option R → Option R → Type 0
  NotBefore None best = ⊤
  NotBefore (Some x) None = ⊥
  NotBefore (Some x) (Some b) = Le (is_before cmp) b x

  -- a record that is first of a run, or of the list, and none of the others is before it
  pub record IsBest (runs : List (Run R)) (head : Option R) (from : ℕ) (best : Option R) : Type 0 where
    pub runs_after : All (λ (run : Run R). NotBefore (first_of (items_of run)) best) runs
    pub head_after : NotBefore head best
    pub from_is : ((from ≡ length runs) × (best ≡ head)) ⊎ ((from < length runs) × IsSome best × ((d : Run R) → first_of (items_of (slice_index_or runs from d)) ≡ best))
