-- What is hinted at: the next block of each run.
use Rattle.std.specs.Prelude.{◌≡◌, ℕ, List, map, get_or, slice_set, Option, None, All}
use Rattle.std.specs.List.{AllByRecursion as Each}
use Rattle.ppq_array.specs.ppq_outside.Shown.{Shown}
use Rattle.ppq_array.specs.External.{External, next_of, IsLabelled}

module _ {S R : Type 0} where
  -- the first record of the first block of each run that is neither loaded nor lifted
  abbrev pub nexts_of : List (External S R) → List (Option R)
  nexts_of arrays = map (λ (a : External S R). next_of a.stored) arrays

  -- that of one run
  abbrev pub next_at : List (External S R) → ℕ → Option R
  next_at arrays at = get_or (nexts_of arrays) at None

  -- The hints are what is next in each run, and the blocks have their labels
  pub record AreHints (record_of : List ℕ → R) (width : ℕ) (shown : S → Shown) (arrays : List (External S R)) (hints : List (Option R)) : Type 0 where
    pub nexts : hints ≡ nexts_of arrays
    pub labelled : Each (λ (a : External S R). All (IsLabelled record_of width shown) a.stored) arrays

  -- What is next is the same, but for two runs
  pub record NextsBut (first second : ℕ) (old new : List (External S R)) : Type 0 where
    pub one : Option R
    pub other : Option R
    pub same : nexts_of new ≡ slice_set (slice_set (nexts_of old) first one) second other
