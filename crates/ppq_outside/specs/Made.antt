-- Which blocks a rack made, by number.
use Rattle.std.specs.Prelude.{ℕ, List, [], ◌∷◌, ◌++◌, Result, Ok, Err}
use Rattle.std.specs.List.Sorted.{IsPermutation}

-- the block that a call made, where it made one
abbrev pub made_by : {S E : Type 0} → Result S E → ℕ → List ℕ
made_by (Ok slot) number = number ∷ []
made_by (Err fault) number = []

-- these blocks were made, in this order: whatever was made before, now it is that and then these
abbrev pub HasMade : (List ℕ → Type 0) → (List ℕ → Type 0) → List ℕ → Type 0
HasMade before now numbers = (made : List ℕ) → before made → now (made ++ numbers)

-- the blocks that were made have just these numbers, each as often as it stands here, in some order
pub record HasMadeJust (before now : List ℕ → Type 0) (numbers : List ℕ) : Type 0 where
  pub order : List ℕ
  pub same : IsPermutation numbers order
  pub made : HasMade before now order
