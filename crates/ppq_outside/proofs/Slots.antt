-- What a slot that tells holds after a write, and what a read gives.
use Rattle.std.proofs.Common.{◌≡◌, ℕ, List, Option, Some, None, IsSome}
use Rattle.ppq_outside.specs.Told.{Keeps}

-- a slot that tells holds what was written
pub holds_written : (before now : Option (List ℕ)) (bytes : List ℕ) → IsSome before → Keeps before now bytes → now ≡ Some bytes
holds_written None now bytes tells keeps = cc
holds_written (Some had) now bytes tells keeps = keeps
