-- One turn of a refill: which block is next, and what is to be done.
use Rattle.std.specs.Prelude.{◌≡◌, ◌≢◌, ◌⊎◌, ℕ, ◌+◌, ◌<◌, ⊤, ◌==◌, if◌then◌else◌, min, List, [], length, Option, Some, None, slice_get}
use Rattle.std.specs.declared.cmp.Ordering.{Ordering}
use Rattle.std.specs.List.{AllByRecursion as Each}
use Rattle.ppq_array.specs.ppq_record.Order.{Le, is_before}
use Rattle.ppq_array.specs.Run.{items_of}
use Rattle.ppq_array.specs.External.{External, next_of}
use Rattle.ppq_array.specs.Holdings.{external_buffers}
use Rattle.ppq_fetch.specs.Fetching.{fronts_in}
use Rattle.ppq_fetch.specs.declared.edge.Edge.{Edge}
use Rattle.ppq_fetch.specs.declared.turn.NextBlock.{NextBlock}
use Rattle.ppq_fetch.specs.declared.turn.Turn.{Turn}
use Rattle.ppq_fetch.specs.declared.turn.Turn.TheVariants.{End, Load, Take}

-- this record is not after the first of the run's blocks that are not loaded, where there are any
abbrev pub NotAfter : {R : Type 0} → (R → R → Ordering) → R → Option R → Type 0
NotAfter cmp u None = ⊤
NotAfter cmp u (Some m) = Le (is_before cmp) u m

abbrev pub minimum_of : {R : Type 0} → Option (NextBlock R) → Option R
minimum_of None = None
minimum_of (Some next) = Some next.minimum

-- what is taken where nothing can be loaded
abbrev pub rest_turn : ℕ → Turn
rest_turn safe = if safe == 0 then End else Take safe

module _ {S R : Type 0} (cmp : R → R → Ordering) where
  -- the block's record is the one on the label of the first of its run's blocks, and no other run's first one is before it
  pub record IsLeastNext (arrays : List (External S R)) (next : NextBlock R) : Type 0 where
    pub array : External S R
    pub here : slice_get arrays next.place ≡ Some array
    pub minimum : next_of array.stored ≡ Some next.minimum
    pub stored : 0 < length array.stored
    pub least : Each (λ (a : External S R). NotAfter cmp next.minimum (next_of a.stored)) arrays

  abbrev pub IsNext : List (External S R) → Option (NextBlock R) → Type 0
  IsNext arrays None = Each (λ (a : External S R). a.stored ≡ []) arrays
  IsNext arrays (Some next) = IsLeastNext arrays next

-- The next block of a run may be loaded: it is to be the run's front, or fewer than so many blocks are loaded beyond the fronts
abbrev pub HasBuffer : {S R : Type 0} → List (External S R) → ℕ → External S R → Type 0
HasBuffer arrays ahead a = (items_of a.loaded ≡ []) ⊎ (external_buffers arrays < fronts_in arrays + ahead)

-- The next block of a run is to be loaded, and there is a buffer for it
pub record LoadsNext {S R : Type 0} (arrays : List (External S R)) (ahead at : ℕ) : Type 0 where
  pub array : External S R
  pub here : slice_get arrays at ≡ Some array
  pub stored : 0 < length array.stored
  pub buffer : HasBuffer arrays ahead array

-- No record is safe, and there is no buffer for the block that is next, though its run has a record loaded
pub record IsOdd {S R : Type 0} (arrays : List (External S R)) (next : Option (NextBlock R)) (edge : Edge R) (safe : ℕ) : Type 0 where
  pub none : safe ≡ 0
  pub block : NextBlock R
  pub array : External S R
  pub is : next ≡ Some block
  pub near : edge ≡ Edge.AtMost block.minimum
  pub here : slice_get arrays block.place ≡ Some array
  pub loaded : 0 < length (items_of array.loaded)

-- what a turn does: it takes safe records, as many as are wanted or all that are; or it loads the next block; or nothing is left within reach
abbrev pub IsTurn : {S R : Type 0} → List (External S R) → Option (NextBlock R) → Edge R → ℕ → ℕ → ℕ → Option Turn → Type 0
IsTurn arrays next edge safe room ahead (Some (Take n)) = (0 < n) × (n ≡ min safe room)
IsTurn arrays next edge safe room ahead (Some (Load at)) = LoadsNext arrays ahead at
IsTurn {S} {R} arrays next edge safe room ahead (Some End) = (safe ≡ 0) × ((u : R) → edge ≢ Edge.AtMost u)
IsTurn arrays next edge safe room ahead None = IsOdd arrays next edge safe
