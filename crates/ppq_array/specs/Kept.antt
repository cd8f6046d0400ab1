-- Slots and buffers that move between a supply, runs and lanes: none is lost or made, and no count of a slot falls.
use Rattle.std.specs.Prelude.{◌≡◌, ℕ, ◌+◌, ◌-◌, ◌<◌, ◌≤◌, ◌==◌, cond, List, ◌++◌, length, sum_by}
use Rattle.ppq_outside.specs.Shown.{Shown}
use Rattle.ppq_array.specs.Supply.{Stock}

-- a weight of the slot with this number, and 0 of the others
abbrev pub weight_at : (Shown → ℕ) → ℕ → Shown → ℕ
weight_at f number s = cond (s.number == number) (f s) 0

-- how many of the slots have this number
abbrev pub times_of : ℕ → List Shown → ℕ
times_of number slots = sum_by (weight_at (λ s. 1) number) slots

-- the counts of the slots with this number, added up
abbrev pub faults_at : ℕ → List Shown → ℕ
faults_at number slots = sum_by (weight_at (λ s. s.faults) number) slots

abbrev pub writes_at : ℕ → List Shown → ℕ
writes_at number slots = sum_by (weight_at (λ s. s.writes) number) slots

abbrev pub reads_at : ℕ → List Shown → ℕ
reads_at number slots = sum_by (weight_at (λ s. s.reads) number) slots

-- the bytes of the slots with this number, added up
abbrev pub sizes_at : ℕ → List Shown → ℕ
sizes_at number slots = sum_by (weight_at (λ s. s.size) number) slots

-- how many more times a slot was read than written
abbrev pub overread : Shown → ℕ
overread s = s.reads - s.writes

-- the same of each of these slots, added up
abbrev pub all_overreads : List Shown → ℕ
all_overreads slots = sum_by overread slots

-- all failed calls of these slots
abbrev pub all_faults : List Shown → ℕ
all_faults slots = sum_by (λ s. s.faults) slots

-- all writes of these slots
abbrev pub all_writes : List Shown → ℕ
all_writes slots = sum_by (λ s. s.writes) slots

-- all reads of these slots
abbrev pub all_reads : List Shown → ℕ
all_reads slots = sum_by (λ s. s.reads) slots

-- the slots were written at most so many times more, and not read
pub record MoreWrites (most : ℕ) (before now : List Shown) : Type 0 where
  pub writes : all_writes now ≤ all_writes before + most
  pub reads : all_reads now ≤ all_reads before

-- the same slots as they are, in any order: they add up to the same, whatever is added
abbrev pub SameSums : List Shown → List Shown → Type 0
SameSums before now = (f : Shown → ℕ) → sum_by f before ≡ sum_by f now

-- no call of these slots failed since
abbrev pub AreQuiet : List Shown → List Shown → Type 0
AreQuiet before now = all_faults now ≡ all_faults before

-- The same slots, each once, told by their numbers, in any order, each with as many bytes; no count of a slot fell, and no read came that was
-- one more than the writes of its slot
pub record SameSlots (before now : List Shown) : Type 0 where
  pub length : length now ≡ length before
  pub each_once : (number : ℕ) → times_of number now ≡ times_of number before
  pub faults : (number : ℕ) → faults_at number before ≤ faults_at number now
  pub writes : (number : ℕ) → writes_at number before ≤ writes_at number now
  pub reads : (number : ℕ) → reads_at number before ≤ reads_at number now
  pub sizes : (number : ℕ) → sizes_at number now ≡ sizes_at number before
  pub overreads : all_overreads now ≤ all_overreads before

-- what runs and lanes hold beside a supply: their slots, and how many buffers
pub record Held : Type 0 where
  pub slots : List Shown
  pub buffers : ℕ

-- From old and before to new and now, whatever the answer: the slots that are held and kept are those from before and those that were drawn
-- from a row since. The supply can take back one more slot for each that is held more, and one more buffer for each that is held more
pub record Kept (old new : Stock) (before now : Held) : Type 0 where
  pub slots : SameSlots (before.slots ++ old.kept ++ new.drawn) (now.slots ++ new.kept ++ old.drawn)
  pub slot_room : length now.slots + old.slot_room ≡ length before.slots + new.slot_room
  pub buffers : now.buffers + old.buffer_room ≡ before.buffers + new.buffer_room
  pub block : new.block ≡ old.block

-- a slot with this number is there, and a call of it failed
abbrev pub HasFailed : ℕ → List Shown → Type 0
HasFailed number slots = 0 < faults_at number slots
