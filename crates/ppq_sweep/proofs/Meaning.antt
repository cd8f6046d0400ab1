-- What levels mean: they rise along edges, each is reached by one, and no other numbers are so; the order of the edges does not matter.
use Rattle.std.proofs.Common.{◌≡◌, ℕ, zero, suc, ◌+◌, ◌<◌, ◌≤◌, Bool, true, false, List, [], ◌∷◌, ◌++◌, cond, refl, sym, ap, ap₂, inl, inr, ◌∙◌, arith, true≢false}
use Rattle.std.specs.Prelude.{◌⊎◌, nat_eq, nat_lt, Any, ⊤}
use Rattle.std.specs.List.{AllByRecursion as Each}
use Rattle.std.proofs.lemmas.Bool.{cases_Bool, eqb-true, eq-eqb, ltb-true, lt-ltb}
use Rattle.ppq_queue.specs.ppq_heap.ppq_record.declared.pair.Pair.{Pair}
use Rattle.ppq_queue.specs.ppq_heap.ppq_record.Bag.{IsSameBag}
use Rattle.ppq_queue.proofs.ppq_heap.ppq_record.Order.{Each-weaker, Each-same_bag}
use Rattle.ppq_sweep.specs.Levels.{IsEdge, AreEdges, AreLevels, greatest, lifted, level_within, level, line_of, sweep_text}
use Rattle.ppq_sweep.proofs.Greatest.{greatest-same, greatest-weights, greatest-within, each_within, greatest-reached, greatest-at}
use Rattle.ppq_sweep.proofs.Leveling.{lifted-agree, first-level, level-is}

-- what an edge makes of the level of its own target
lifted-target : (f : ℕ → ℕ) (e : Pair) → lifted f e.value e ≡ f e.key + 1
lifted-target f e = ap (λ b. cond b (f e.key + 1) 0) (eq-eqb e.value e.value refl)

lifted-here : (f : ℕ → ℕ) (v : ℕ) (e : Pair) → e.value ≡ v → lifted f v e ≡ f e.key + 1
lifted-here f v e is = ap (λ b. cond b (f e.key + 1) 0) (eq-eqb e.value v is)

-- an edge that makes something of the level of a node ends there
lifts : (f : ℕ → ℕ) (v n : ℕ) (e : Pair) → 0 < lifted f v e → lifted f v e ≡ n → (e.value ≡ v) × (n ≡ f e.key + 1)
lifts f v n e some is =
    elim (cases_Bool (nat_eq e.value v)) as (λ _. (e.value ≡ v) × (n ≡ f e.key + 1)) [
      | inl t ↦ (let here : e.value ≡ v = eqb-true e.value v t in (here, sym is ∙ lifted-here f v e here))
      | inr t ↦ (let none : lifted f v e ≡ 0 = ap (λ b. cond b (f e.key + 1) 0) t in absurd (omega (arith, some, none)))
    ]

pub levels-are : (nodes : ℕ) (edges : List Pair) → AreEdges nodes edges → AreLevels edges (level edges)
levels-are nodes edges are =
    let f : ℕ → ℕ = level edges in
    record {
      rise = Each-weaker (λ e. (v : ℕ) → lifted f v e ≤ f v) (λ e. f e.key < f e.value) (λ e h. omega (arith, h e.value, lifted-target f e)) edges
          (each_within (λ v. lifted f v) f edges (λ v. omega (arith, level-is nodes edges are v)));
      reached = λ v.
          elim (greatest-reached (lifted f v) (f v) edges (level-is nodes edges are v)) as (λ _. (f v ≡ 0) ⊎ Any (λ e. (e.value ≡ v) × (f v ≡ f e.key + 1)) edges) [
            | inl none ↦ inl none
            | inr one ↦ inr (one.0, one.1, one.2, one.3, lifts f v (f v) one.1 one.4.0 one.4.1)
          ];
    }

module _ (edges : List Pair) (f : ℕ → ℕ) (are : AreLevels edges f) where
  lifted-below : (v : ℕ) (e : Pair) → f e.key < f e.value → lifted f v e ≤ f v
  lifted-below v e rises =
      elim (cases_Bool (nat_eq e.value v)) as (λ _. lifted f v e ≤ f v) [
        | inl t ↦ (let here : e.value ≡ v = eqb-true e.value v t in let same : f e.value ≡ f v = ap f here in omega (arith, lifted-here f v e here, rises, same))
        | inr t ↦ (let none : lifted f v e ≡ 0 = ap (λ b. cond b (f e.key + 1) 0) t in omega (arith, none))
      ]

  -- numbers that are levels are the greatest of what the edges make of them
  number-is : (v : ℕ) → f v ≡ greatest (lifted f v) edges
  number-is v =
      let low : greatest (lifted f v) edges ≤ f v = greatest-within (λ e. f e.key < f e.value) (lifted f v) (f v) edges are.rise (lifted-below v) in
      let high : f v ≤ greatest (lifted f v) edges =
      elim (are.reached v) as (λ _. f v ≤ greatest (lifted f v) edges) [
        | inl none ↦ omega (arith, none)
        | inr one ↦ omega (arith, greatest-at (lifted f v) edges one.0 one.1 one.2 one.3, lifted-here f v one.1 one.4.0, one.4.1)
      ] in
      omega (arith, low, high)

  number_within : (nodes : ℕ) → AreEdges nodes edges → (n v : ℕ) → v ≤ n → f v ≡ level_within edges n v
  number_within nodes good zero v h = number-is v ∙ first-level nodes edges good f v h
  number_within nodes good (suc n) v h =
      number-is v
      ∙ greatest-weights (IsEdge nodes) (lifted f v) (lifted (level_within edges n) v) edges good
      (lifted-agree nodes f (level_within edges n) v (λ u below. number_within nodes good n u (omega (arith, h, below))))

pub levels-only : (nodes : ℕ) (edges : List Pair) → AreEdges nodes edges → (f : ℕ → ℕ) → AreLevels edges f → (v : ℕ) → f v ≡ level edges v
levels-only nodes edges good f are v = number_within edges f are nodes good v v (omega arith)

-- a pair is no edge
abbrev no_edge : ℕ → Pair → Bool
no_edge nodes e = cond (nat_lt e.key e.value) (cond (nat_lt e.value nodes) false true) true

edge_fails : (nodes : ℕ) (e : Pair) → IsEdge nodes e → no_edge nodes e ≡ false
edge_fails nodes e is = rw (lt-ltb e.key e.value is.up, lt-ltb e.value nodes is.within) refl

edge_is : (nodes : ℕ) (e : Pair) → no_edge nodes e ≡ false → IsEdge nodes e
edge_is nodes e fails =
    elim (cases_Bool (nat_lt e.key e.value)) as (λ _. IsEdge nodes e) [
      | inl t ↦ elim (cases_Bool (nat_lt e.value nodes)) as (λ _. IsEdge nodes e) [
        | inl s ↦ record { up = ltb-true e.key e.value t; within = ltb-true e.value nodes s }
        | inr s ↦ (let no : no_edge nodes e ≡ true = rw (t, s) refl in absurd (true≢false (sym no ∙ fails)))
      ]
      | inr t ↦ (let no : no_edge nodes e ≡ true = rw t refl in absurd (true≢false (sym no ∙ fails)))
    ]

-- edges in another order are edges
pub edges-same : (nodes : ℕ) (one other : List Pair) → IsSameBag one other → AreEdges nodes one → AreEdges nodes other
edges-same nodes one other same are =
    Each-weaker (λ e. no_edge nodes e ≡ false) (IsEdge nodes) (edge_is nodes) other
    (Each-same_bag (no_edge nodes) one other same (Each-weaker (IsEdge nodes) (λ e. no_edge nodes e ≡ false) (edge_fails nodes) one are))

within-same : (one other : List Pair) → IsSameBag one other → (n v : ℕ) → level_within one n v ≡ level_within other n v
within-same one other same zero v = refl
within-same one other same (suc n) v =
    greatest-same (lifted (level_within one n) v) one other same
    ∙ greatest-weights (λ e. ⊤) (lifted (level_within one n) v) (lifted (level_within other n) v) other (each_any other)
    (λ e any. ap (λ m. cond (nat_eq e.value v) (m + 1) 0) (within-same one other same n e.key))
  where
    each_any : (xs : List Pair) → Each (λ e. ⊤) xs
    each_any [] = tt
    each_any (x ∷ xs) = (tt, each_any xs)

-- edges in another order have the same levels
pub text-same : (nodes : ℕ) (one other : List Pair) → IsSameBag one other → sweep_text one nodes ≡ sweep_text other nodes
text-same zero one other same = refl
text-same (suc n) one other same = ap₂ (λ (x y : List ℕ). x ++ y) (text-same n one other same) (ap (line_of n) (within-same one other same n n))
