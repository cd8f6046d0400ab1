-- A slot that may give back other bytes than it was given.
use Rattle.std.specs.Prelude.{◌≡◌, ℕ, List, Option, Some, None, Result, OnOk, OnErr, ⊤}
use Rattle.ppq_outside.specs.Told.{Counts, HasOneCause, next_count}
use Rattle.ppq_outside.specs.Shown.{Shown}
use Rattle.ppq_checked.specs.Sums.{sum_of}

-- if a slot tells, these are the bytes that it was given, or bytes of another sum
abbrev pub SameOrNoticed : Option (List ℕ) → List ℕ → Type 0
SameOrNoticed None bytes = ⊤
SameOrNoticed (Some given) bytes = sum_of bytes ≡ sum_of given → bytes ≡ given

-- a read was called once, with this answer, and gave these bytes, which may be others than the slot was given
pub record IsUntrustedRead {T E : Type 0} (result : Result T E) (bytes : List ℕ) (before now : Shown) : Type 0 where
  pub given : OnOk result (SameOrNoticed before.told bytes)
  pub kept : now.told ≡ before.told
  pub number : now.number ≡ before.number
  pub size : now.size ≡ before.size
  pub writes : now.writes ≡ before.writes
  pub reads : Counts result before.reads now.reads
  pub cause : HasOneCause before.faults now.faults result
  -- a failed call is one call
  pub once : OnErr result (now.faults ≡ next_count before.faults)
