-- Runs with no record left, and lists that they were taken out of.
use Rattle.std.specs.Prelude.{◌≡◌, List, [], ◌++◌, All}
use Rattle.std.specs.List.Sorted.{IsPermutation}
use Rattle.ppq_fetch.specs.ppq_array.Run.{Run}
use Rattle.ppq_fetch.specs.ppq_array.External.{External}

-- The old list is the new one and such elements beside, in any order
pub record LostOnly {X : Type 0} (IsLost : X → Type 0) (old new : List X) : Type 0 where
  pub lost : List X
  pub each : All IsLost lost
  pub parted : IsPermutation old (lost ++ new)

-- the run has no buffer, so no record
pub record IsEmptyRun {R : Type 0} (run : Run R) : Type 0 where
  pub live : run.live ≡ []
  pub spent : run.spent ≡ []

-- the run has no block, so no slot, no buffer and no record
pub record IsEmptyArray {S R : Type 0} (a : External S R) : Type 0 where
  pub loaded : IsEmptyRun a.loaded
  pub lifted : a.lifted ≡ []
  pub stored : a.stored ≡ []
