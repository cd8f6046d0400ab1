-- What a library replied of a file, and what a call leaves of it. It is said of every library, also of one that does not tell.
use Rattle.std.specs.Prelude.{◌≡◌, ◌≤◌, ◌<◌, ◌+◌, ℕ, List, [], ◌∷◌, length, take, Option, Some, Result, OnOk, IfErr, ⊤}
use Rattle.std.specs.List.{concat}
use Rattle.ppq_outside.specs.Told.{Reply, OfLength, OfRead, Remembers, RepliesOnly, bytes_or_none}

-- where the library tells, this file has so many bytes
abbrev pub HasLength : Option (List ℕ → Option (List ℕ)) → List ℕ → ℕ → Type 0
HasLength told name said = (files : List ℕ → Option (List ℕ)) → told ≡ Some files → length (bytes_or_none (files name)) ≡ said

-- a read of this file into room for a byte or more gave nothing at this place
abbrev pub EndsAt : (Reply → Type 0) → List ℕ → ℕ → Type 0
EndsAt replied name got = (room : ℕ) × ((0 < room) × replied (OfRead name got room []))

-- reads of this file gave these pieces, one after the other with no gap, from an offset on
abbrev pub AreGiven : (Reply → Type 0) → List ℕ → ℕ → List (List ℕ) → Type 0
AreGiven replied name at [] = ⊤
AreGiven replied name at (piece ∷ pieces) = ((room : ℕ) × replied (OfRead name at room piece)) × AreGiven replied name (at + length piece) pieces

-- reads of this file gave these bytes from an offset on
pub record IsGivenAt (replied : Reply → Type 0) (name : List ℕ) (at : ℕ) (bytes : List ℕ) : Type 0 where
  pub pieces : List (List ℕ)
  pub given : AreGiven replied name at pieces
  pub all : concat pieces ≡ bytes

-- the library gave this file as these bytes: so many it said, and just these reads gave
pub record IsReplied (replied : Reply → Type 0) (name bytes : List ℕ) : Type 0 where
  pub said : replied (OfLength name (Some (length bytes)))
  pub gave : IsGivenAt replied name 0 bytes

-- a reply to a read of this file that ends at or before this place: no byte past it was asked for
abbrev pub IsReadWithin : List ℕ → ℕ → Reply → Type 0
IsReadWithin asked end (OfLength name size) = ⊥
IsReadWithin asked end (OfRead name at room given) = (name ≡ asked) × (at + room ≤ end)

-- a reply on this file: on its length, or to a read that ends at or before a length that was said of it
abbrev pub IsOn : (Reply → Type 0) → List ℕ → Reply → Type 0
IsOn replied asked (OfLength name size) = name ≡ asked
IsOn replied asked (OfRead name at room given) = (name ≡ asked) × ((said : ℕ) × (replied (OfLength name (Some said)) × (at + room ≤ said)))

-- What a call leaves of the library: it tells what it told, remembers what it replied, and replied since to nothing but this
pub record LibraryKeeps {L : Type 0} (files : L → Option (List ℕ → Option (List ℕ))) (replied : L → Reply → Type 0) (kind : Reply → Type 0) (old new : L) : Type 0 where
  pub told : files new ≡ files old
  pub remembers : Remembers (replied old) (replied new)
  pub asks : RepliesOnly (replied old) (replied new) kind

-- the same of a call that reads this file up to a place, and nothing else
abbrev pub ReadsFile : {L : Type 0} → (L → Option (List ℕ → Option (List ℕ))) → (L → Reply → Type 0) → List ℕ → ℕ → L → L → Type 0
ReadsFile files replied name end old new = LibraryKeeps files replied (IsReadWithin name end) old new

-- a count of faults did not fall; it stayed where the result is Ok, and else did what the fault says
pub record CountsBy {T F : Type 0} (says : ℕ → ℕ → F → Type 0) (before now : ℕ) (result : Result T F) : Type 0 where
  pub later : before ≤ now
  pub stays : OnOk result (now ≡ before)
  pub cause : IfErr result (says before now)

-- A read gave so many bytes of this file behind the first `got` of a piece that begins at a place. None came only where the file ends
pub record GivesMore (before now : Reply → Type 0) (name : List ℕ) (at got : ℕ) (old new : List ℕ) (count : ℕ) : Type 0 where
  pub within : got + count ≤ length new
  pub given : IsGivenAt before name at (take got old) → IsGivenAt now name at (take (got + count) new)
  pub ends : count ≡ 0 → EndsAt now name (at + got)
