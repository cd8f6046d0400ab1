-- Parts of several runs, between two places of each.
use Rattle.std.specs.Prelude.{◌≡◌, ℕ, ◌+◌, ◌-◌, ◌≤◌, Bool, List, [], ◌∷◌, ◌++◌, length, take, drop, ⊤}
use Rattle.std.specs.Coded.{×_prop, Unit-prop, le_prop}
use Rattle.std.specs.declared.cmp.Ordering.{Ordering}
use Rattle.std.specs.List.{AllByRecursion as Each}
use Rattle.ppq_split.specs.ppq_record.Order.{is_before, Le, Rising}
use Rattle.ppq_split.specs.ppq_record.Bag.{IsSameBag}

-- of some places those that belong to the runs: one for each
abbrev pub places_for : {X : Type 0} → List X → List ℕ → List ℕ
places_for lists places = take (length lists) places

-- the records of each run between two places, run after run
abbrev pub between : {X : Type 0} → List ℕ → List ℕ → List (List X) → List X
between (f ∷ fs) (t ∷ ts) (q ∷ qs) = drop f (take t q) ++ between fs ts qs
between [] ts qs = []
between (f ∷ fs) [] qs = []
between (f ∷ fs) (t ∷ ts) [] = []

-- each run has two places, the first not past the second, and the second not past the run's end
abbrev pub AreParts : {X : Type 0} → List ℕ → List ℕ → List (List X) → Type 0
AreParts [] [] [] = ⊤
AreParts (f ∷ fs) (t ∷ ts) (q ∷ qs) = ((f ≤ t) × (t ≤ length q)) × AreParts fs ts qs
AreParts [] [] (q ∷ qs) = ⊥
AreParts [] (t ∷ ts) qs = ⊥
AreParts (f ∷ fs) [] qs = ⊥
AreParts (f ∷ fs) (t ∷ ts) [] = ⊥

-- it holds in one way
pub AreParts-prop : {X : Type 0} (fs ts : List ℕ) (qs : List (List X)) → IsProp (AreParts fs ts qs)
AreParts-prop [] [] [] = Unit-prop
AreParts-prop (f ∷ fs) (t ∷ ts) (q ∷ qs) = ×_prop (×_prop le_prop le_prop) (AreParts-prop fs ts qs)
AreParts-prop [] [] (q ∷ qs) = λ a b. absurd a
AreParts-prop [] (t ∷ ts) qs = λ a b. absurd a
AreParts-prop (f ∷ fs) [] qs = λ a b. absurd a
AreParts-prop (f ∷ fs) (t ∷ ts) [] = λ a b. absurd a

-- how many records lie between the places
abbrev pub size_between : List ℕ → List ℕ → ℕ
size_between [] ts = 0
size_between (f ∷ fs) [] = 0
size_between (f ∷ fs) (t ∷ ts) = (t - f) + size_between fs ts

-- the records between the places of each run are so many
pub record LieBetween {X : Type 0} (fs ts : List ℕ) (qs : List (List X)) (count : ℕ) : Type 0 where
  pub parts : AreParts fs ts qs
  pub size : count ≡ size_between fs ts

-- the records in front of the places
abbrev pub before : {X : Type 0} → List ℕ → List (List X) → List X
before (c ∷ cs) (q ∷ qs) = take c q ++ before cs qs
before [] qs = []
before (c ∷ cs) [] = []

-- the records from the places on
abbrev pub after : {X : Type 0} → List ℕ → List (List X) → List X
after (c ∷ cs) (q ∷ qs) = drop c q ++ after cs qs
after [] qs = []
after (c ∷ cs) [] = []

-- no record in front of the places is greater than one from the places on
abbrev pub IsParted : {X : Type 0} → (X → X → Bool) → List ℕ → List (List X) → Type 0
IsParted lt cs qs = Each (λ a. Each (Le lt a) (after cs qs)) (before cs qs)

-- out has just the records between the places, and ascends if the runs do
pub record IsMergeBy {X : Type 0} (lt : X → X → Bool) (qs : List (List X)) (from to : List ℕ) (out : List X) : Type 0 where
  pub bag : IsSameBag out (between from to qs)
  pub order : Each (Rising lt) qs → Rising lt out

-- the same, by the order of the records
abbrev pub IsMerge : {R : Type 0} → (R → R → Ordering) → List (List R) → List ℕ → List ℕ → List R → Type 0
IsMerge cmp lists from to out = IsMergeBy (is_before cmp) lists from to out
