-- Whether as many slots tell.
use Rattle.std.specs.Prelude.{◌≡◌, List, sum_by}
use Rattle.ppq_fetch.specs.ppq_outside.Shown.{Shown}
pub use Rattle.ppq_fetch.specs.Untold.{untold_of, untold}

-- as many of the slots do not tell
abbrev pub SameUntold : List Shown → List Shown → Type 0
SameUntold before now = sum_by untold before ≡ sum_by untold now
