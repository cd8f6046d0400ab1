-- Bytes that wait, and what a call of a source adds to them.
use Rattle.std.specs.Prelude.{◌≡◌, ℕ, ◌<◌, List, [], ◌++◌, length, Option}
use Rattle.ppq_outside.specs.Told.{GivesPiece, GivesBehind}

-- the bytes that wait, and how many more have room behind them
pub record Buffered : Type 0 where
  pub waiting : List ℕ
  pub room : ℕ

abbrev pub empty_buffer : Buffered
empty_buffer = record { waiting = []; room = 4194308 }

-- a piece of so many bytes came behind those that waited; none, where there is room for one, only if the source says that none comes
pub record HasRead (told told_now : Option (List ℕ)) (gave gave_now : List ℕ → Type 0) (over : Type 0) (old new : Buffered) (count : ℕ) : Type 0 where
  pub piece : List ℕ
  pub counted : length piece ≡ count
  pub all : new.waiting ≡ old.waiting ++ piece
  pub comes : GivesPiece told told_now piece
  pub given : GivesBehind gave gave_now piece
  pub end : count ≡ 0 → 0 < old.room → over
