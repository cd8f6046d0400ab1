-- How far records of runs are safe to be given.
use Rattle.std.specs.Prelude.{◌≡◌, Bool, true, not, List, Option, Some, None, cond}
use Rattle.std.specs.declared.cmp.Ordering.{Ordering}
use Rattle.std.specs.List.{AllByRecursion as Each}
use Rattle.ppq_array.specs.ppq_record.Order.{is_before}
use Rattle.ppq_fetch.specs.Taking.{IsSafe, AllBelow}
use Rattle.ppq_fetch.specs.declared.edge.Edge.{Edge}
use Rattle.ppq_fetch.specs.declared.edge.Edge.TheVariants.{Whole, AtMost, Below}

module _ {R : Type 0} (cmp : R → R → Ordering) where
  -- the test whether a record is on this side of the edge
  abbrev pub is_within : Edge R → R → Bool
  is_within Whole x = true
  is_within (AtMost u) x = not (is_before cmp u x)
  is_within (Below l) x = is_before cmp x l

  -- the nearer of a first record that is not loaded, which may be passed by none, and a limit, which is to be kept below
  abbrev pub nearer : R → R → Edge R
  nearer u l = cond (is_before cmp u l) (AtMost u) (Below l)

  abbrev pub edge_of : Option R → Option R → Edge R
  edge_of None None = Whole
  edge_of None (Some l) = Below l
  edge_of (Some u) None = AtMost u
  edge_of (Some u) (Some l) = nearer u l

  -- records within the edge are not after one that waits, and they are below the limit; and what is not within it is not below the limit,
  -- unless it waits for a block
  abbrev pub IsSafeEdge : Edge R → Option R → List R → Type 0
  IsSafeEdge edge below waiting = IsSafe cmp (is_within edge) waiting × ((xs : List R) → Each (λ x. is_within edge x ≡ true) xs → AllBelow cmp below xs)
