-- The levels of the nodes of an acyclic graph, and their text.
use Rattle.std.specs.Prelude.{◌≡◌, ◌⊎◌, ℕ, zero, suc, ◌+◌, ◌<◌, List, [], ◌∷◌, ◌++◌, cond, max, nat_eq, decimal, codes, Any}
use Rattle.std.specs.List.{AllByRecursion as Each}
use Rattle.ppq_queue.specs.ppq_heap.ppq_record.declared.pair.Pair.{Pair}

-- an edge leads from a node, its key, to a later one, its value, which is below the number of nodes
pub record IsEdge (nodes : ℕ) (edge : Pair) : Type 0 where
  pub up : edge.key < edge.value
  pub within : edge.value < nodes

abbrev pub AreEdges : ℕ → List Pair → Type 0
AreEdges nodes edges = Each (IsEdge nodes) edges

-- the greatest of the weights of a list's items, and 0 of none
abbrev pub greatest : {X : Type 0} → (X → ℕ) → List X → ℕ
greatest w [] = 0
greatest w (x ∷ xs) = max (w x) (greatest w xs)

-- what an edge makes of the level of a node: one more than that of its source, if it ends there, and else nothing
abbrev pub lifted : (ℕ → ℕ) → ℕ → Pair → ℕ
lifted f v edge = cond (nat_eq edge.value v) (f edge.key + 1) 0

-- the level of a node, by its sources, theirs by theirs, and so on, at most n times
abbrev pub level_within : List Pair → ℕ → ℕ → ℕ
level_within edges zero v = 0
level_within edges (suc n) v = greatest (lifted (level_within edges n) v) edges

-- the level of a node: 0 if no edge ends at it, and else one more than the greatest level of a source of such an edge. All sources are
-- below the node, so v steps are enough
abbrev pub level : List Pair → ℕ → ℕ
level edges v = level_within edges v v

-- these numbers are levels: each edge leads to a greater one, and each that is not 0 is one more than that of the source of an edge that
-- ends there
pub record AreLevels (edges : List Pair) (f : ℕ → ℕ) : Type 0 where
  pub rise : Each (λ edge. f edge.key < f edge.value) edges
  pub reached : (v : ℕ) → (f v ≡ 0) ⊎ Any (λ edge. (edge.value ≡ v) × (f v ≡ f edge.key + 1)) edges

-- the line of a node
abbrev pub line_of : ℕ → ℕ → List ℕ
line_of node level = decimal node ++ (codes " " ++ (decimal level ++ codes "\n"))

-- the lines of the first nodes, so many
abbrev pub sweep_text : List Pair → ℕ → List ℕ
sweep_text edges zero = []
sweep_text edges (suc n) = sweep_text edges n ++ line_of n (level edges n)
