-- What the bytes of a file are after a write, and what reads of it give.
use Rattle.std.specs.Prelude.{◌≡◌, ℕ, ◌+◌, ◌-◌, List, [], ◌∷◌, ◌++◌, length, take, drop, replicate}
use Rattle.ppq_outside.specs.Told.{ReadsAt}

-- a file with bytes put over those from an offset on; what is between its end and the offset becomes zeros
abbrev pub put_at : List ℕ → ℕ → List ℕ → List ℕ
put_at file at bytes = take at file ++ replicate (at - length file) 0 ++ bytes ++ drop (at + length bytes) file

-- a file after a write of bytes at an offset: a write of no bytes leaves it as it is
abbrev pub written_at : List ℕ → ℕ → List ℕ → List ℕ
written_at file at [] = file
written_at file at (byte ∷ bytes) = put_at file at (byte ∷ bytes)

-- these are the bytes of a file from an offset on, none of them past its end
abbrev pub IsAt : List ℕ → ℕ → List ℕ → Type 0
IsAt file at bytes = bytes ≡ take (length bytes) (drop at file)

-- what was held before is held now
abbrev pub Keeps : (List ℕ → Type 0) → (List ℕ → Type 0) → Type 0
Keeps before now = (file : List ℕ) → before file → now file

-- whatever file was held before, it is held now with these bytes written at this offset
abbrev pub Writes : (List ℕ → Type 0) → (List ℕ → Type 0) → ℕ → List ℕ → Type 0
Writes before now at bytes = (file : List ℕ) → before file → now (written_at file at bytes)

-- of whatever file is held, one read at this offset into room for so many bytes may give these
abbrev pub GivesSome : (List ℕ → Type 0) → ℕ → ℕ → List ℕ → Type 0
GivesSome holds at room given = (file : List ℕ) → holds file → ReadsAt file at room given

-- of whatever file is held, these are the bytes from this offset on
abbrev pub Gives : (List ℕ → Type 0) → ℕ → List ℕ → Type 0
Gives holds at bytes = (file : List ℕ) → holds file → IsAt file at bytes

-- the file that was held, with the first so many bytes written at this offset, is held with a few more of them written
abbrev pub WritesMore : (List ℕ → Type 0) → (List ℕ → Type 0) → ℕ → List ℕ → ℕ → ℕ → Type 0
WritesMore before now at bytes done count = (file : List ℕ) → before (written_at file at (take done bytes)) → now (written_at file at (take (done + count) bytes))

-- if the first so many bytes were those of the file that is held, a few more of them are
abbrev pub GivesMore : (List ℕ → Type 0) → ℕ → List ℕ → List ℕ → ℕ → ℕ → Type 0
GivesMore holds at old new got count = (file : List ℕ) → holds file → IsAt file at (take got old) → IsAt file at (take (got + count) new)
