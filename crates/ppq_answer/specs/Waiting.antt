-- What stands first when a wait for a frame ends.
use Rattle.std.specs.Prelude.{◌≡◌, ◌≢◌, ℕ, List, []}
use Rattle.ppq_frames.specs.Frames.{IsPart}
use Rattle.ppq_frames.specs.declared.filled.Filled.{Filled}
use Rattle.ppq_frames.specs.declared.filled.Filled.TheVariants.{More, End, CutOff}

-- more than a part of a frame stands first; or nothing comes any more, and nothing waits, or a part of a frame
abbrev pub IsAwaited : Type 0 → List ℕ → Filled → Type 0
IsAwaited over waiting More = ¬ IsPart waiting
IsAwaited over waiting End = over × (waiting ≡ [])
IsAwaited over waiting CutOff = over × (waiting ≢ []) × IsPart waiting
