-- The entries of a library in memory as files.
use Rattle.std.specs.Prelude.{◌≡◌, ℕ, List, map, Option, Some, None, string_bytes, IsSomeAnd}
use Rattle.std.specs.Borrow.{Bor}
use Rattle.ppq_outside.specs.MemoryLibrary.{File, shrunk_file}
use Rattle.ppq_outside.specs.declared.memory_library.Entry.{Entry}

abbrev pub file_of : Entry → File
file_of entry = record { name = string_bytes entry.name; bytes = entry.bytes.items; end = entry.end }

abbrev pub files_of : List Entry → List File
files_of entries = map file_of entries

-- a search gave the entry of this file, or nothing where there is none
abbrev pub Finds : Option File → Option (Bor Entry) → Type 0
Finds None found = found ≡ None
Finds (Some file) found = IsSomeAnd found (λ entry. file_of entry.now ≡ file)

-- an entry that was made to end at an offset, if it has this name
abbrev pub IsShrunk : List ℕ → ℕ → Entry → Entry → Type 0
IsShrunk name to old new = file_of new ≡ shrunk_file name to (file_of old)
