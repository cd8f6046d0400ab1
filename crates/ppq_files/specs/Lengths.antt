-- The lengths of record files.
use Rattle.std.specs.Prelude.{◌≡◌, ◌*◌, ◌≤◌, ◌%◌, ℕ, Bool, false, ◌&&◌, ◌==◌, nat_le, List, Option, Some, None, ⊤}
use Rattle.ppq_outside.specs.Told.{Reply, OfLength, OfRead, Rose}
use Rattle.ppq_outside.specs.declared.fault.OutsideFault.{OutsideFault}
use Rattle.ppq_outside.specs.declared.fault.OutsideFault.TheVariants as outside
use Rattle.ppq_files.specs.declared.length.LengthFault.{LengthFault}
use Rattle.ppq_files.specs.declared.length.LengthFault.TheVariants.{Failed, Memory, Absent, NoRecords}

-- the length of a file of records of a width: whole records, at most 2^32 of them
abbrev pub IsRecordLength : ℕ → ℕ → Type 0
IsRecordLength width length = (length % width ≡ 0) × (length ≤ 4294967296 * width)

abbrev pub is_record_length : ℕ → ℕ → Bool
is_record_length width length = (length % width == 0) && nat_le length (4294967296 * width)

-- a file of this length, or none, is one of such records
abbrev pub is_record_file : ℕ → Option ℕ → Bool
is_record_file width None = false
is_record_file width (Some length) = is_record_length width length

-- a reply on the length of some file
abbrev pub IsLength : Reply → Type 0
IsLength (OfLength name size) = ⊤
IsLength (OfRead name at room given) = ⊥

-- a reply on the length of this file
abbrev pub IsLengthOf : List ℕ → Reply → Type 0
IsLengthOf asked (OfLength name size) = name ≡ asked
IsLengthOf asked (OfRead name at room given) = ⊥

-- the library replied of this name something else than the length of a record file
abbrev pub HasNoRecords : ℕ → (Reply → Type 0) → List ℕ → Type 0
HasNoRecords width replied name = (size : Option ℕ) × (replied (OfLength name size) × (is_record_file width size ≡ false))

-- a library's fault as why there is no length
abbrev pub length_fault_of : OutsideFault → LengthFault
length_fault_of outside.Failed = Failed
length_fault_of outside.Memory = Memory

-- the library replied that there is no file of this name
abbrev pub IsAbsent : (Reply → Type 0) → List ℕ → Type 0
IsAbsent replied name = replied (OfLength name None)

-- the library replied of this name a length that is none of a record file
abbrev pub HasPartRecords : ℕ → (Reply → Type 0) → List ℕ → Type 0
HasPartRecords width replied name = (size : ℕ) × (replied (OfLength name (Some size)) × (is_record_length width size ≡ false))

-- what a refusal says by the library's replies
abbrev pub LengthRefusalIsRight : ℕ → (Reply → Type 0) → List ℕ → LengthFault → Type 0
LengthRefusalIsRight width replied name Failed = ⊤
LengthRefusalIsRight width replied name Memory = ⊤
LengthRefusalIsRight width replied name Absent = IsAbsent replied name
LengthRefusalIsRight width replied name NoRecords = HasPartRecords width replied name

-- the library's count rose where it failed, and else stayed
abbrev pub LengthFaultAfter : ℕ → ℕ → LengthFault → Type 0
LengthFaultAfter before now Failed = Rose before now
LengthFaultAfter before now Memory = now ≡ before
LengthFaultAfter before now Absent = now ≡ before
LengthFaultAfter before now NoRecords = now ≡ before
