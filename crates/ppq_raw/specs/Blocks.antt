-- What contracts see of a block of a file.
use Rattle.std.specs.Prelude.{ℕ, None}
use Rattle.ppq_outside.specs.Shown.{Shown}

-- such a block: the file that it stands in, its number, its length in bytes, and how many of its calls failed, and how many writes and
-- reads returned Ok
pub record BlockState (F : Type 0) : Type 0 where
  pub file : F
  pub number : ℕ
  pub size : ℕ
  pub faults : ℕ
  pub writes : ℕ
  pub reads : ℕ

-- what it shows: all but its bytes
abbrev pub shown_of : {F : Type 0} → BlockState F → Shown
shown_of block = record { told = None; number = block.number; size = block.size; faults = block.faults; writes = block.writes; reads = block.reads }
