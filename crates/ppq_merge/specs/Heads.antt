-- The next records of runs that are merged.
use Rattle.std.specs.Prelude.{◌≡◌, ℕ, Bool, List, [], ◌∷◌, ◌++◌, take, drop, get_or, Option, None}
use Rattle.std.specs.List.{AllByRecursion as Each}
use Rattle.ppq_split.specs.ppq_record.Order.{Le, Rising}
use Rattle.ppq_split.specs.ppq_record.Bag.{IsSameBag, first_of}
use Rattle.ppq_split.specs.Cut.{total, IsCutBy}
use Rattle.ppq_split.specs.Edge.{ends}

-- each run's first record between its two places, or none if there is none
unfoldable pub heads : {X : Type 0} → List ℕ → List ℕ → List (List X) → List (Option X)
heads (f ∷ fs) (t ∷ ts) (q ∷ qs) = first_of (drop f (take t q)) ∷ heads fs ts qs
heads [] ts qs = []
heads (f ∷ fs) [] qs = []
heads (f ∷ fs) (t ∷ ts) [] = []

-- that of one run
abbrev pub head : {X : Type 0} → List ℕ → List ℕ → List (List X) → ℕ → Option X
head fs ts qs i = get_or (heads fs ts qs) i None

-- of all, done was merged, and left is left
pub record IsMerging {X : Type 0} (lt : X → X → Bool) (qs : List (List X)) (done left all : List X) : Type 0 where
  pub bag : IsSameBag (done ++ left) all
  pub order : Each (Rising lt) qs → Rising lt done × Each (λ a. Each (Le lt a) left) done

-- x is the next of what is left, and rest remains
pub record IsNext {X : Type 0} (lt : X → X → Bool) (qs : List (List X)) (x : X) (left rest : List X) : Type 0 where
  pub bag : IsSameBag (x ∷ rest) left
  pub least : Each (Rising lt) qs → Each (Le lt x) left

-- a merge that goes on to the runs' ends leads from a cut to a cut
abbrev pub LeadsToCut : {X : Type 0} → (X → X → Bool) → List (List X) → List ℕ → List ℕ → List ℕ → Type 0
LeadsToCut lt qs ts old new = ts ≡ ends qs → Each (Rising lt) qs → IsCutBy lt qs (total old) old → IsCutBy lt qs (total new) new
