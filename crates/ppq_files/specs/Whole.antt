-- A file that is read whole, and why one is not.
use Rattle.std.specs.Prelude.{◌≡◌, ◌≤◌, ◌<◌, ℕ, List, length, Option, Some, None, IfSome, ⊤}
use Rattle.ppq_outside.specs.Told.{Reply, OfLength, Rose, bytes_or_none}
use Rattle.ppq_outside.specs.declared.fault.OutsideFault.{OutsideFault}
use Rattle.ppq_outside.specs.declared.fault.OutsideFault.TheVariants as outside
use Rattle.ppq_files.specs.declared.fault.FileFault.{FileFault}
use Rattle.ppq_files.specs.declared.fault.FileFault.TheVariants as file
use Rattle.ppq_files.specs.declared.whole.WholeFault.{WholeFault}
use Rattle.ppq_files.specs.declared.whole.WholeFault.TheVariants.{Failed, Memory, Absent, TooLong, Ended}
use Rattle.ppq_files.specs.Reading.{EndsAt, IsGivenAt, IsReplied}

-- a library's fault as why a file was not read whole
abbrev pub whole_fault_of : OutsideFault → WholeFault
whole_fault_of outside.Failed = Failed
whole_fault_of outside.Memory = Memory

-- a fault of reading the bytes of a file that has so many
abbrev pub fault_within : ℕ → FileFault → WholeFault
fault_within said file.Failed = Failed
fault_within said file.Memory = Memory
fault_within said (file.Ended got) = Ended said got

-- where the library tells, these are the file's bytes
abbrev pub IsLoaded : Option (List ℕ → Option (List ℕ)) → List ℕ → List ℕ → Type 0
IsLoaded told name bytes = IfSome told (λ files. files name ≡ Some bytes)

-- the library said that this file has so many bytes, which is not too much
pub record IsFewBytes (replied : Reply → Type 0) (name : List ℕ) (most size : ℕ) : Type 0 where
  pub short : size ≤ most
  pub said : replied (OfLength name (Some size))

-- the library gave this file as these bytes, which are not too many, and where it tells, they are the file's
pub record IsLoadedAs (told : Option (List ℕ → Option (List ℕ))) (replied : Reply → Type 0) (name : List ℕ) (most : ℕ) (bytes : List ℕ) : Type 0 where
  pub short : length bytes ≤ most
  pub loaded : IsLoaded told name bytes
  pub given : IsReplied replied name bytes

-- the length of this file was said, and it is too much
abbrev pub IsTooLong : (Reply → Type 0) → List ℕ → ℕ → Type 0
IsTooLong replied name most = (size : ℕ) × ((most < size) × replied (OfLength name (Some size)))

-- the length of this file was said, reads gave fewer bytes of it, one behind the other, and a read behind those gave nothing; the library does
-- not tell
pub record IsCutShort (told : Option (List ℕ → Option (List ℕ))) (replied : Reply → Type 0) (name : List ℕ) (said got : ℕ) : Type 0 where
  pub before : got < said
  pub said_is : replied (OfLength name (Some said))
  pub reached : (bytes : List ℕ) × ((length bytes ≡ got) × IsGivenAt replied name 0 bytes)
  pub read : EndsAt replied name got
  pub untold : told ≡ None

-- what a refusal says by the library's replies on this file
abbrev pub WholeRefusalIsRight : Option (List ℕ → Option (List ℕ)) → (Reply → Type 0) → List ℕ → ℕ → WholeFault → Type 0
WholeRefusalIsRight told replied name most Failed = ⊤
WholeRefusalIsRight told replied name most Memory = ⊤
WholeRefusalIsRight told replied name most Absent = replied (OfLength name None)
WholeRefusalIsRight told replied name most TooLong = IsTooLong replied name most
WholeRefusalIsRight told replied name most (Ended said got) = IsCutShort told replied name said got

-- what it says of the file that is told
abbrev pub Refuses : Option (List ℕ) → ℕ → WholeFault → Type 0
Refuses file most Failed = ⊤
Refuses file most Memory = ⊤
Refuses file most Absent = file ≡ None
Refuses file most TooLong = most < length (bytes_or_none file)
Refuses file most (Ended said got) = ⊥

-- where the library tells, the refusal is right
abbrev pub WholeRefusalIsTrue : Option (List ℕ → Option (List ℕ)) → List ℕ → ℕ → WholeFault → Type 0
WholeRefusalIsTrue told name most fault = IfSome told (λ files. Refuses (files name) most fault)

-- the library's count rose where it failed, and else stayed
abbrev pub WholeFaultAfter : ℕ → ℕ → WholeFault → Type 0
WholeFaultAfter before now Failed = Rose before now
WholeFaultAfter before now Memory = now ≡ before
WholeFaultAfter before now Absent = now ≡ before
WholeFaultAfter before now TooLong = now ≡ before
WholeFaultAfter before now (Ended said got) = now ≡ before
