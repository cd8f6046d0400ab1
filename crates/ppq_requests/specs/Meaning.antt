-- What a request means to a reader: a relation above the definition that computes.
use Rattle.std.specs.Prelude.{◌≡◌, ℕ, ◌<◌, ◌^◌, List, [], ◌∷◌, ◌++◌, length, map, flat_map, All, ⊤}
use Rattle.std.specs.Int.{w32, w64, to_be_bytes}
use Rattle.std.specs.List.{AllByRecursion as Each}
use Rattle.ppq_script.specs.Words.{Words}
use Rattle.ppq_script.specs.declared.command.Command.{Command}
use Rattle.ppq_script.specs.declared.command.Command.TheVariants.{Push, Pop, Top, BulkPop, BulkPopLimit}

-- what a client asks for
pub data Asked (R : Type 0) : Type 0 where
  push : R → Asked R
  push_many : List R → Asked R
  pop : Asked R
  top : Asked R
  bulk_pop : ℕ → Asked R
  bulk_pop_limit : R → ℕ → Asked R

-- how that is written: a letter, and then records in their bytes and numbers with their highest byte first
abbrev pub written : {R : Type 0} → Words R → Asked R → List ℕ
written w (push item) = 43 ∷ w.bytes_of item
written w (push_many items) = 80 ∷ to_be_bytes w32 (length items) ++ flat_map w.bytes_of items
written w pop = 112 ∷ []
written w top = 116 ∷ []
written w (bulk_pop count) = 110 ∷ to_be_bytes w64 count
written w (bulk_pop_limit limit count) = 98 ∷ w.bytes_of limit ++ to_be_bytes w64 count

-- the commands that it stands for
abbrev pub meant : {R : Type 0} → Asked R → List (Command R)
meant (push item) = Push item ∷ []
meant (push_many items) = map Push items
meant pop = Pop ∷ []
meant top = Top ∷ []
meant (bulk_pop count) = BulkPop count ∷ []
meant (bulk_pop_limit limit count) = BulkPopLimit limit count ∷ []

-- a record that its bytes stand for, as each value is
abbrev pub HasBytes : {R : Type 0} → Words R → R → Type 0
HasBytes w item = w.record_of (w.bytes_of item) ≡ item

-- its records have bytes, and its numbers fit into theirs
abbrev pub CanBeWritten : {R : Type 0} → Words R → Asked R → Type 0
CanBeWritten w (push item) = HasBytes w item
CanBeWritten w (push_many items) = All (HasBytes w) items × (length items < 2 ^ 32)
CanBeWritten w pop = ⊤
CanBeWritten w top = ⊤
CanBeWritten w (bulk_pop count) = count < 2 ^ 64
CanBeWritten w (bulk_pop_limit limit count) = HasBytes w limit × (count < 2 ^ 64)

-- these bytes are what a client writes who asks for things that stand for these commands
pub record Asks {R : Type 0} (w : Words R) (bytes : List ℕ) (commands : List (Command R)) : Type 0 where
  pub asked : List (Asked R)
  pub can : Each (CanBeWritten w) asked
  pub spelled : bytes ≡ flat_map (written w) asked
  pub mean : commands ≡ flat_map meant asked
