-- The files that commands name: which can be used, and what is asked of them.
use Rattle.std.specs.Prelude.{◌≡◌, ◌⊎◌, ⊤, ℕ, ◌+◌, ◌<◌, Bool, true, List, [], ◌∷◌, Option, Some, None, IfSome, get_or, if◌then◌else◌}
use Rattle.ppq_outside.specs.Told.{Reply, OfLength, length_of}
use Rattle.ppq_files.specs.Lengths as lengths
pub use Rattle.ppq_files.specs.Lengths.{IsLength}
use Rattle.ppq_script.specs.declared.command.Command.{Command}
use Rattle.ppq_script.specs.declared.command.Command.TheVariants.{Push, Pop, Top, Size, Bulk, Gen, BulkPop, BulkPopLimit, Drain, BulkBegin, BulkPush, BulkEnd, LimitBegin, LimitPush, LimitTop, LimitPop, LimitEnd}
use Rattle.ppq_script.specs.declared.numbered.Numbered.{Numbered}
use Rattle.ppq_script.specs.Lines.{LineKind, Skipped, Plain, OfFile, Bad}
use Rattle.ppq_script.specs.Words.{Words}

-- the length of a record file: whole records, at most 2^32 of them
abbrev pub IsRecordLength : {R : Type 0} → Words R → ℕ → Type 0
IsRecordLength words length = lengths.IsRecordLength words.WIDTH length

abbrev pub is_record_length : {R : Type 0} → Words R → ℕ → Bool
is_record_length words length = lengths.is_record_length words.WIDTH length

-- a file of this length, or none, can be used
abbrev pub is_record_file : {R : Type 0} → Words R → Option ℕ → Bool
is_record_file words size = lengths.is_record_file words.WIDTH size

-- the file of this name can be used
abbrev pub is_usable : {R : Type 0} → Words R → (List ℕ → Option (List ℕ)) → List ℕ → Bool
is_usable words files name = is_record_file words (length_of (files name))

-- the number and the length of the file that a command names, if it names one
abbrev pub file_in : {R : Type 0} → Command R → Option (ℕ × ℕ)
file_in (Push item) = None
file_in Pop = None
file_in Top = None
file_in Size = None
file_in (Bulk file length) = Some (file, length)
file_in (Gen seed count) = None
file_in (BulkPop count) = None
file_in (BulkPopLimit limit count) = None
file_in (Drain count) = None
file_in BulkBegin = None
file_in (BulkPush pass item) = None
file_in BulkEnd = None
file_in (LimitBegin limit) = None
file_in (LimitPush pass item) = None
file_in LimitTop = None
file_in LimitPop = None
file_in LimitEnd = None

-- the file that a command names, if it names one, is among so many
abbrev pub NamesFile : {R : Type 0} → ℕ → Command R → Type 0
NamesFile files command = IfSome (file_in command) (λ file. file.0 < files)

-- its length is one of a record file
abbrev pub HasRecords : {R : Type 0} → Words R → Command R → Type 0
HasRecords words command = IfSome (file_in command) (λ file. IsRecordLength words file.1)

-- the name of a file
abbrev pub name_at : List (List ℕ) → ℕ → List ℕ
name_at names file = get_or names file []

-- a file, if there is one, can be used
abbrev pub usable_file : (List ℕ → Bool) → List (List ℕ) → Option (ℕ × ℕ) → Bool
usable_file usable names None = true
usable_file usable names (Some file) = usable (name_at names file.0)

-- the line of the first command whose file cannot be used, or else the line that is bad behind the commands
abbrev pub bad_among : {R : Type 0} → (List ℕ → Bool) → List (List ℕ) → List (Numbered R) → Option ℕ → Option ℕ
bad_among usable names [] bad = bad
bad_among usable names (item ∷ items) bad = if usable_file usable names (file_in item.command) then bad_among usable names items bad else Some item.line

-- the library replied of this name a length of a record file, and another reply
abbrev pub IsFound : {R : Type 0} → Words R → (Reply → Type 0) → List ℕ → Type 0
IsFound words replied name = (length : ℕ) × (replied (OfLength name (Some length)) × IsRecordLength words length)

abbrev pub IsNotFound : {R : Type 0} → Words R → (Reply → Type 0) → List ℕ → Type 0
IsNotFound words replied name = lengths.HasNoRecords words.WIDTH replied name

-- the same of the file of a command, if it names one
abbrev pub FoundFile : {R : Type 0} → Words R → (Reply → Type 0) → List (List ℕ) → Option (ℕ × ℕ) → Type 0
FoundFile words replied names None = ⊤
FoundFile words replied names (Some file) = IsFound words replied (name_at names file.0)

abbrev pub NoFile : {R : Type 0} → Words R → (Reply → Type 0) → List (List ℕ) → Option (ℕ × ℕ) → Type 0
NoFile words replied names None = ⊥
NoFile words replied names (Some file) = IsNotFound words replied (name_at names file.0)

-- by the library's replies this is the line of the first command whose file cannot be used, or else the line that is bad behind
-- the commands
abbrev pub IsBadAmong : {R : Type 0} → Words R → (Reply → Type 0) → List (List ℕ) → List (Numbered R) → Option ℕ → ℕ → Type 0
IsBadAmong words replied names [] bad line = bad ≡ Some line
IsBadAmong words replied names (item ∷ items) bad line = (FoundFile words replied names (file_in item.command) × IsBadAmong words replied names items bad line)
    ⊎ ((item.line ≡ line) × NoFile words replied names (file_in item.command))

-- by the library's replies this is the number of the first line that is bad or names a file that cannot be used, counted from n
abbrev pub IsBadKind : {R : Type 0} → Words R → (Reply → Type 0) → ℕ → LineKind R → Type 0 → ℕ → Type 0
IsBadKind words replied n Skipped rest line = rest
IsBadKind words replied n (Plain command) rest line = rest
IsBadKind words replied n (OfFile name) rest line = (IsFound words replied name × rest) ⊎ ((n ≡ line) × IsNotFound words replied name)
IsBadKind words replied n Bad rest line = n ≡ line

abbrev pub IsBadLine : {R : Type 0} → Words R → (Reply → Type 0) → ℕ → List (LineKind R) → ℕ → Type 0
IsBadLine words replied n [] line = ⊥
IsBadLine words replied n (kind ∷ kinds) line = IsBadKind words replied n kind (IsBadLine words replied (n + 1) kinds line) line
