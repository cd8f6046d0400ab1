-- Slots that are moved, written and read.
use Rattle.std.specs.Prelude.{◌↔◌, ℕ, ◌+◌, ◌<◌, ◌≤◌, List}
use Rattle.ppq_counts.specs.Tally.{last}
use Rattle.ppq_fetch.specs.ppq_outside.Shown.{Shown, AllTell}
use Rattle.ppq_fetch.specs.ppq_array.Kept.{SameSlots, all_writes}
use Rattle.ppq_spill.specs.Leveling.{MoreCalls}
use Rattle.ppq_spill.specs.Untold.{SameUntold}

-- The same slots, none lost or made. No count of a slot fell; they were written and read at most so many times more, and tell just where
-- they told
pub record Went (writes reads : ℕ) (before now : List Shown) : Type 0 where
  pub same : SameSlots before now
  pub calls : MoreCalls writes reads before now
  pub tells : AllTell before ↔ AllTell now

-- They were only written, and as many of them do not tell
pub record WentWriting (writes : ℕ) (before now : List Shown) : Type 0 where
  pub went : Went writes 0 before now
  pub untold : SameUntold before now

-- while no count stands still, they were written at least so many times more
abbrev pub AtLeast : ℕ → List Shown → List Shown → Type 0
AtLeast writes before now = all_writes now < last → all_writes before + writes ≤ all_writes now
