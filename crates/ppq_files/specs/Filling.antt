-- Why a piece of a file was not read.
use Rattle.std.specs.Prelude.{◌≡◌, ◌≤◌, ◌<◌, ◌+◌, ℕ, List, length, Option, Some, None, ⊤}
use Rattle.ppq_outside.specs.Told.{Reply, Rose, bytes_or_none}
use Rattle.ppq_outside.specs.declared.fault.OutsideFault.{OutsideFault}
use Rattle.ppq_outside.specs.declared.fault.OutsideFault.TheVariants as outside
use Rattle.ppq_files.specs.declared.fault.FileFault.{FileFault}
use Rattle.ppq_files.specs.declared.fault.FileFault.TheVariants.{Failed, Memory, Ended}
use Rattle.ppq_files.specs.Reading.{EndsAt, IsGivenAt}

-- a library's fault as a fault of reading
abbrev pub file_fault_of : OutsideFault → FileFault
file_fault_of outside.Failed = Failed
file_fault_of outside.Memory = Memory

-- A read gave nothing at this place, which is before the end of a piece that begins at `at`; reads gave all bytes from there up to it; and a
-- library that tells has no more bytes of that file
pub record IsEnd (told : Option (List ℕ → Option (List ℕ))) (replied : Reply → Type 0) (name : List ℕ) (at end got : ℕ) : Type 0 where
  pub before : got < end
  pub reached : (bytes : List ℕ) × ((at + length bytes ≡ got) × IsGivenAt replied name at bytes)
  pub read : EndsAt replied name got
  pub short : (files : List ℕ → Option (List ℕ)) → told ≡ Some files → length (bytes_or_none (files name)) ≤ got

-- what a fault says of the file
abbrev pub ReadEndsIn : Option (List ℕ → Option (List ℕ)) → (Reply → Type 0) → List ℕ → ℕ → ℕ → FileFault → Type 0
ReadEndsIn told replied name at end Failed = ⊤
ReadEndsIn told replied name at end Memory = ⊤
ReadEndsIn told replied name at end (Ended got) = IsEnd told replied name at end got

-- a file ended at this place, before the length that was said; the library does not tell
pub record HasEndedEarly (told : Option (List ℕ → Option (List ℕ))) (replied : Reply → Type 0) (name : List ℕ) (said got : ℕ) : Type 0 where
  pub before : got < said
  pub read : EndsAt replied name got
  pub untold : told ≡ None

-- where a file ended, it says so of it
abbrev pub PieceEndsIn : Option (List ℕ → Option (List ℕ)) → (Reply → Type 0) → List ℕ → ℕ → FileFault → Type 0
PieceEndsIn told replied name said Failed = ⊤
PieceEndsIn told replied name said Memory = ⊤
PieceEndsIn told replied name said (Ended got) = HasEndedEarly told replied name said got

-- the library's count rose where it failed, and else stayed
abbrev pub FaultAfter : ℕ → ℕ → FileFault → Type 0
FaultAfter before now Failed = Rose before now
FaultAfter before now Memory = now ≡ before
FaultAfter before now (Ended got) = now ≡ before
