-- How many slots do not tell.
use Rattle.std.specs.Prelude.{ℕ, List, Option, Some, None}
use Rattle.ppq_array.specs.ppq_outside.Shown.{Shown}

-- 1 where nothing is told
abbrev pub untold_of : Option (List ℕ) → ℕ
untold_of None = 1
untold_of (Some bytes) = 0

-- 1 of a slot that does not tell
abbrev pub untold : Shown → ℕ
untold s = untold_of s.told
