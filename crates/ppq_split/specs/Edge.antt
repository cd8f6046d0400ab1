-- Edges: what parts each run in two.
use Rattle.std.specs.Prelude.{◌≡◌, ℕ, zero, suc, ◌<◌, ◌≤◌, Bool, true, false, cond, not, List, [], ◌∷◌, length, get_or, count_by, ⊤}
use Rattle.std.specs.List.{AllByRecursion as Each}
use Rattle.ppq_record.specs.Order.{Rising}
use Rattle.ppq_record.specs.Runs.{list_at}
use Rattle.ppq_split.specs.declared.edge.Edge.{Edge}
use Rattle.ppq_split.specs.declared.edge.Edge.TheVariants.{Start, End, At}

-- whether y goes before x: where y is of a lower run if it is not above x, and else if it is below x
abbrev pub passes : {X : Type 0} → (X → X → Bool) → X → Bool → X → Bool
passes lt x is_lower y = cond is_lower (not (lt x y)) (lt y x)

-- so many records of a run go before x: at least low, at most high
pub record IsWindow {X : Type 0} (lt : X → X → Bool) (x : X) (is_lower : Bool) (q : List X) (low high : ℕ) : Type 0 where
  pub order : low ≤ high
  pub within : high ≤ length q
  pub counts : Rising lt q → (low ≤ count_by (passes lt x is_lower) q) × (count_by (passes lt x is_lower) q ≤ high)

-- the beginning of each run
abbrev pub starts : {X : Type 0} → List (List X) → List ℕ
starts [] = []
starts (q ∷ qs) = 0 ∷ starts qs

-- the end of each run
abbrev pub ends : {X : Type 0} → List (List X) → List ℕ
ends [] = []
ends (q ∷ qs) = length q ∷ ends qs

-- for each of some higher runs, how many records are below x
abbrev pub higher_places : {X : Type 0} → (X → X → Bool) → X → List (List X) → List ℕ
higher_places lt x [] = []
higher_places lt x (q ∷ qs) = count_by (passes lt x false) q ∷ higher_places lt x qs

-- the places where a record x of run i parts the runs: p in its own
abbrev pub mark_places : {X : Type 0} → (X → X → Bool) → X → ℕ → ℕ → List (List X) → List ℕ
mark_places lt x p i [] = []
mark_places lt x p zero (q ∷ qs) = p ∷ higher_places lt x qs
mark_places lt x p (suc i) (q ∷ qs) = count_by (passes lt x true) q ∷ mark_places lt x p i qs

-- the places of an edge
abbrev pub edge_places : {X : Type 0} → (X → X → Bool) → List (List X) → Edge X → List ℕ
edge_places lt qs Start = starts qs
edge_places lt qs End = ends qs
edge_places lt qs (At x i p) = mark_places lt x p i qs

-- nothing before place p is above x, and nothing from there on is below x
pub record IsPartedBy {X : Type 0} (lt : X → X → Bool) (x : X) (p : ℕ) (q : List X) : Type 0 where
  pub within : p ≤ length q
  pub left : (a : ℕ) (d : X) → a < p → lt x (get_or q a d) ≡ false
  pub right : (b : ℕ) (d : X) → p ≤ b → b < length q → lt (get_or q b d) x ≡ false

-- an edge of these runs
unfoldable pub IsEdge : {X : Type 0} → (X → X → Bool) → List (List X) → Edge X → Type 0
IsEdge lt qs Start = ⊤
IsEdge lt qs End = ⊤
IsEdge lt qs (At x i p) = (i < length qs) × (p ≤ length (list_at qs i)) × (Each (Rising lt) qs → IsPartedBy lt x p (list_at qs i))
