-- A record file that is read piece by piece.
use Rattle.std.specs.Prelude.{◌≡◌, ◌≤◌, ◌<◌, ◌+◌, ◌*◌, ◌/◌, ℕ, List, length, take, drop, Option, Some}
use Rattle.ppq_outside.specs.Told.{Reply, bytes_or_none}
use Rattle.ppq_files.specs.Reading.{IsGivenAt}

-- What contracts see of such a file: its name, how many bytes the library said that it has, and how many of its records were read
pub record PieceState : Type 0 where
  pub name : List ℕ
  pub said : ℕ
  pub from : ℕ

-- These bytes, so many, are the next records of a file, of so many bytes each: reads gave them, and where the library tells, they are the file's.
-- Some came unless all were read
pub record IsNextPiece (width : ℕ) (told : Option (List ℕ → Option (List ℕ))) (replied : Reply → Type 0) (old : PieceState) (piece : List ℕ) (bytes : ℕ) (new : PieceState) : Type 0 where
  pub count : ℕ
  pub new_is : new ≡ record { name = old.name; said = old.said; from = old.from + count }
  pub bytes_are : bytes ≡ count * width
  pub long : length piece ≡ bytes
  pub within : (old.from + count) * width ≤ old.said
  pub some : old.from < old.said / width → 0 < count
  pub given : IsGivenAt replied old.name (old.from * width) piece
  pub are : (files : List ℕ → Option (List ℕ)) → told ≡ Some files → piece ≡ take (length piece) (drop (old.from * width) (bytes_or_none (files old.name)))
