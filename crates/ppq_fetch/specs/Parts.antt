-- Places in several runs, and the records before and after them.
use Rattle.std.specs.Coded.{×_prop, Unit-prop, le_prop}
use Rattle.ppq_merge.specs.ppq_split.Cut.{AreWithin}
use Rattle.std.specs.Prelude.{ℕ, Bool, List, [], ◌∷◌, take, drop, count_by}

-- each run up to its place
abbrev pub firsts : {X : Type 0} → List ℕ → List (List X) → List (List X)
firsts (c ∷ cs) (q ∷ qs) = take c q ∷ firsts cs qs
firsts [] qs = []
firsts (c ∷ cs) [] = []

-- each run from its place on
abbrev pub rests : {X : Type 0} → List ℕ → List (List X) → List (List X)
rests (c ∷ cs) (q ∷ qs) = drop c q ∷ rests cs qs
rests [] qs = []
rests (c ∷ cs) [] = []

-- how many records of each run pass a test
abbrev pub passed : {X : Type 0} → (X → Bool) → List (List X) → List ℕ
passed p [] = []
passed p (q ∷ qs) = count_by p q ∷ passed p qs

-- that places are within runs holds in one way
pub AreWithin-prop : {X : Type 0} (cs : List ℕ) (qs : List (List X)) → IsProp (AreWithin cs qs)
AreWithin-prop [] [] = Unit-prop
AreWithin-prop (c ∷ cs) (q ∷ qs) = ×_prop le_prop (AreWithin-prop cs qs)
AreWithin-prop [] (q ∷ qs) = λ a b. absurd a
AreWithin-prop (c ∷ cs) [] = λ a b. absurd a
