-- What contracts see of a library in memory, and what its calls answer.
use Rattle.std.specs.Prelude.{ℕ, ◌-◌, Bool, true, false, List, [], ◌∷◌, length, take, map, min, Option, Some, None, Result, Ok, Err, bytes_eq, if◌then◌else◌}
use Rattle.ppq_outside.specs.Told.{next_count, bytes_or_none}
use Rattle.ppq_outside.specs.Plan.{fails_at}
use Rattle.ppq_outside.specs.declared.fault.OutsideFault.{OutsideFault}
use Rattle.ppq_outside.specs.declared.fault.OutsideFault.TheVariants.{Failed}

-- a file in memory: its name, its bytes, and where reads of it end, if it was shrunk
pub record File : Type 0 where
  pub name : List ℕ
  pub bytes : List ℕ
  pub end : Option ℕ

-- a file that was not shrunk
abbrev pub whole_file : List ℕ → List ℕ → File
whole_file name bytes = record { name = name; bytes = bytes; end = None }

-- a library in memory: its files, of which the first of a name counts, whether it was shrunk, the
-- numbers of the calls that are to fail, how many calls were made, and how many of them failed
pub record LibraryState : Type 0 where
  pub files : List File
  pub shrunk : Bool
  pub plan : List ℕ
  pub calls : ℕ
  pub faults : ℕ

-- no file, no call that is to fail, and no call yet
abbrev pub empty_library : LibraryState
empty_library = record { files = []; shrunk = false; plan = []; calls = 0; faults = 0 }

-- the file of a name
abbrev pub lookup : List File → List ℕ → Option File
lookup [] name = None
lookup (file ∷ files) name = if bytes_eq file.name name then Some file else lookup files name

-- the bytes of a file, where there is one
abbrev pub bytes_in : Option File → Option (List ℕ)
bytes_in None = None
bytes_in (Some file) = Some file.bytes

-- bytes up to an end, where there is one
abbrev pub up_to : Option ℕ → List ℕ → List ℕ
up_to None bytes = bytes
up_to (Some end) bytes = take end bytes

-- the bytes of a file that reads give, in a library that was shrunk or not
abbrev pub readable : Bool → File → List ℕ
readable shrunk file = if shrunk then up_to file.end file.bytes else file.bytes

-- the bytes of a name that reads give
abbrev pub readable_in : Bool → Option File → Option (List ℕ)
readable_in shrunk None = None
readable_in shrunk (Some file) = Some (readable shrunk file)

-- what the library tells: the bytes of each name, until it is shrunk
abbrev pub told_by : LibraryState → Option (List ℕ → Option (List ℕ))
told_by library = if library.shrunk then None else Some (λ name. bytes_in (lookup library.files name))

-- a file, whose reads end at an offset from now on if it has this name
abbrev pub shrunk_file : List ℕ → ℕ → File → File
shrunk_file name to file = if bytes_eq file.name name then record file { end = Some to } else file

-- the library after it was shrunk
abbrev pub shrunk_library : LibraryState → List ℕ → ℕ → LibraryState
shrunk_library library name to = record library { files = map (shrunk_file name to) library.files; shrunk = true }

-- the next call fails
abbrev pub fails_next : LibraryState → Bool
fails_next library = fails_at library.plan (next_count library.calls)

-- the library after a call
abbrev pub after_call : LibraryState → LibraryState
after_call library = record library {
  calls = next_count library.calls;
  faults = if fails_next library then next_count library.faults else library.faults;
}

-- what the next call answers, if it gives this where it does not fail
abbrev pub answer : {T : Type 0} → LibraryState → T → Result T OutsideFault
answer library given = if fails_next library then Err Failed else Ok given

-- how many bytes a read from an offset on returns, into room for so many
abbrev pub count_at : Option (List ℕ) → ℕ → ℕ → ℕ
count_at file at room = min room (length (bytes_or_none file) - at)
