-- Several runs of records.
use Rattle.std.specs.Prelude.{ℕ, zero, suc, List, [], ◌∷◌, ◌++◌}

-- the run at a place, or no records past the last
abbrev pub list_at : {X : Type 0} → List (List X) → ℕ → List X
list_at [] n = []
list_at (q ∷ qs) zero = q
list_at (q ∷ qs) (suc n) = list_at qs n

-- the records of all runs
abbrev pub all_of : {X : Type 0} → List (List X) → List X
all_of [] = []
all_of (q ∷ qs) = q ++ all_of qs
