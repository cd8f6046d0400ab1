-- What contracts see of a slot, and what its calls do to it.
use Rattle.std.specs.Prelude.{◌≡◌, ℕ, List, Option, Result, OnOk, OnErr, IsSome, All}
use Rattle.ppq_outside.specs.Told.{Keeps, StillTells, Counts, HasOneCause, next_count}

-- where the slot tells, the bytes that it holds; its number on the device; its length in bytes; how many calls of it failed, and how
-- many writes and reads answered Ok
pub record Shown : Type 0 where
  pub told : Option (List ℕ)
  pub number : ℕ
  pub size : ℕ
  pub faults : ℕ
  pub writes : ℕ
  pub reads : ℕ

-- a write of these bytes was called once, with this answer
pub record IsWritten {T E : Type 0} (result : Result T E) (bytes : List ℕ) (before now : Shown) : Type 0 where
  pub holds : OnOk result (Keeps before.told now.told bytes)
  pub tells : StillTells before.told now.told
  pub number : now.number ≡ before.number
  pub size : now.size ≡ before.size
  pub writes : Counts result before.writes now.writes
  pub reads : now.reads ≡ before.reads
  pub cause : HasOneCause before.faults now.faults result
  -- a failed call is one call
  pub once : OnErr result (now.faults ≡ next_count before.faults)

-- a read was called once, with this answer, and gave these bytes
pub record IsRead {T E : Type 0} (result : Result T E) (bytes : List ℕ) (before now : Shown) : Type 0 where
  pub given : OnOk result (Keeps before.told before.told bytes)
  pub kept : now.told ≡ before.told
  pub number : now.number ≡ before.number
  pub size : now.size ≡ before.size
  pub writes : now.writes ≡ before.writes
  pub reads : Counts result before.reads now.reads
  pub cause : HasOneCause before.faults now.faults result
  -- a failed call is one call
  pub once : OnErr result (now.faults ≡ next_count before.faults)

-- the slot tells
abbrev pub Tells : Shown → Type 0
Tells slot = IsSome slot.told

abbrev pub AllTell : List Shown → Type 0
AllTell slots = All Tells slots
