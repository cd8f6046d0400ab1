-- The records of a block on a device, where its slot tells its bytes.
use Rattle.std.specs.Prelude.{ℕ, List, [], Option, Some, None}
use Rattle.ppq_record.specs.Given.{records_from}

-- the first so many records of the bytes that a slot tells; none where it does not tell
abbrev pub records_told : {R : Type 0} → (List ℕ → R) → ℕ → ℕ → Option (List ℕ) → List R
records_told record_of width count None = []
records_told record_of width count (Some bytes) = records_from record_of width count bytes
