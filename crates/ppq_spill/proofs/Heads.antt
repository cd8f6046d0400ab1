-- The leaves of a tree that has the first records of runs and of a list.
use Rattle.std.proofs.Common.{◌≡◌, ◌⊎◌, inl, inr, ℕ, zero, suc, ◌+◌, ◌<◌, ◌≤◌, false, List, [], ◌∷◌, length, get_or, set, Option, Some, None, IsSome, slice_index_or, refl, sym, ap, ◌∙◌, subst, arith}
use Rattle.std.proofs.lemmas.Bool.{cases_lt, cases_eq}
use Rattle.std.proofs.lemmas.List.{get_or-set_same, get_or-set_other, get_or_past}
use Rattle.std.specs.declared.cmp.Ordering.{Ordering}
use Rattle.std.specs.Ordering.{is_lt}
use Rattle.ppq_fetch.specs.ppq_record.Bag.{first_of}
use Rattle.ppq_fetch.specs.ppq_array.Run.{Run, items_of}
use Rattle.ppq_fetch.specs.ppq_tree.Tree.{IsLeastLeaf, HasNoItems}
use Rattle.ppq_spill.specs.Choosing.{first_at, HasHeads, NotBefore, IsBest}

module _ {R : Type 0} where
  pub first_at-run : (runs : List (Run R)) (rest : List R) (i : ℕ) (d : Run R) → i < length runs → first_at runs rest i ≡ first_of (items_of (slice_index_or runs i d))
  first_at-run [] rest i d h = absurd (omega arith)
  first_at-run (x ∷ xs) rest zero d h = refl
  first_at-run (x ∷ xs) rest (suc i) d h = first_at-run xs rest i d (omega arith)

  pub first_at-list : (runs : List (Run R)) (rest : List R) → first_at runs rest (length runs) ≡ first_of rest
  first_at-list [] rest = refl
  first_at-list (x ∷ xs) rest = first_at-list xs rest

  pub first_at-none : (runs : List (Run R)) (rest : List R) (i : ℕ) → length runs < i → first_at runs rest i ≡ None
  first_at-none [] rest zero h = absurd (omega arith)
  first_at-none [] rest (suc i) h = refl
  first_at-none (x ∷ xs) rest zero h = absurd (omega arith)
  first_at-none (x ∷ xs) rest (suc i) h = first_at-none xs rest i (omega arith)

  first_at-set_same : (runs : List (Run R)) (rest : List R) (i : ℕ) (run : Run R) → i < length runs → first_at (set runs i run) rest i ≡ first_of (items_of run)
  first_at-set_same [] rest i run h = absurd (omega arith)
  first_at-set_same (x ∷ xs) rest zero run h = refl
  first_at-set_same (x ∷ xs) rest (suc i) run h = first_at-set_same xs rest i run (omega arith)

  first_at-set_other : (runs : List (Run R)) (rest : List R) (i k : ℕ) (run : Run R) → (k ≡ i → ⊥) → first_at (set runs i run) rest k ≡ first_at runs rest k
  first_at-set_other [] rest i k run other = refl
  first_at-set_other (x ∷ xs) rest zero zero run other = absurd (other refl)
  first_at-set_other (x ∷ xs) rest zero (suc k) run other = refl
  first_at-set_other (x ∷ xs) rest (suc i) zero run other = refl
  first_at-set_other (x ∷ xs) rest (suc i) (suc k) run other = first_at-set_other xs rest i k run (λ e. other (ap suc e))

  first_at-rest : (runs : List (Run R)) (rest rest' : List R) (k : ℕ) → (k ≡ length runs → ⊥) → first_at runs rest' k ≡ first_at runs rest k
  first_at-rest [] rest rest' zero other = absurd (other refl)
  first_at-rest [] rest rest' (suc k) other = refl
  first_at-rest (x ∷ xs) rest rest' zero other = refl
  first_at-rest (x ∷ xs) rest rest' (suc k) other = first_at-rest xs rest rest' k (λ e. other (ap suc e))

  -- another run stands at a place
  pub heads-run : (runs : List (Run R)) (rest : List R) (tree : List (Option R)) (leaf : ℕ) (run : Run R) (next : Option R) → HasHeads runs rest tree → leaf < length runs → leaf < length tree → next ≡ first_of (items_of run) → HasHeads (set runs leaf run) rest (set tree leaf next)
  heads-run runs rest tree leaf run next heads h l e i =
      elim (cases_eq i leaf) as (λ _. get_or (set tree leaf next) i None ≡ first_at (set runs leaf run) rest i) [
        | inl is ↦ subst (λ (j : ℕ). get_or (set tree leaf next) j None ≡ first_at (set runs leaf run) rest j) (sym is) (get_or-set_same tree leaf next None l ∙ e ∙ sym (first_at-set_same runs rest leaf run h))
        | inr other ↦ get_or-set_other tree leaf i next None other ∙ heads i ∙ sym (first_at-set_other runs rest leaf i run other)
      ]

  -- another list stands behind the runs
  pub heads-rest : (runs : List (Run R)) (rest rest' : List R) (tree : List (Option R)) (leaf : ℕ) (next : Option R) → HasHeads runs rest tree → leaf ≡ length runs → leaf < length tree → next ≡ first_of rest' → HasHeads runs rest' (set tree leaf next)
  heads-rest runs rest rest' tree leaf next heads h l e i =
      elim (cases_eq i leaf) as (λ _. get_or (set tree leaf next) i None ≡ first_at runs rest' i) [
        | inl is ↦ subst (λ (j : ℕ). get_or (set tree leaf next) j None ≡ first_at runs rest' j) (sym is) (get_or-set_same tree leaf next None l ∙ e ∙ sym (first_at-list runs rest') ∙ ap (first_at runs rest') (sym h))
        | inr other ↦ get_or-set_other tree leaf i next None other ∙ heads i ∙ sym (first_at-rest runs rest rest' i (λ k. other (k ∙ sym h)))
      ]

  -- the first so many leaves were written
  abbrev pub HasHeadsTo : ℕ → List (Run R) → List R → List (Option R) → Type 0
  HasHeadsTo n runs rest tree = (leaf : ℕ) → leaf < n → get_or tree leaf None ≡ first_at runs rest leaf

  pub heads-more : (runs : List (Run R)) (rest : List R) (tree : List (Option R)) (n m : ℕ) (next : Option R) → HasHeadsTo n runs rest tree → n < length tree → next ≡ first_at runs rest n → m ≡ n + 1 → HasHeadsTo m runs rest (set tree n next)
  heads-more runs rest tree n m next heads l e more i h =
      elim (cases_eq i n) as (λ _. get_or (set tree n next) i None ≡ first_at runs rest i) [
        | inl is ↦ subst (λ (j : ℕ). get_or (set tree n next) j None ≡ first_at runs rest j) (sym is) (get_or-set_same tree n next None l ∙ e)
        | inr other ↦ get_or-set_other tree n i next None other ∙ heads i (below i n m h more other)
      ]
    where
      below : (i n m : ℕ) → i < m → m ≡ n + 1 → (i ≡ n → ⊥) → i < n
      below i n m h more other = elim (cases_lt i n) as (λ _. i < n) [ inl k ↦ k | inr k ↦ absurd (other (omega (arith, h, more, k))) ]

  pub heads-all : (runs : List (Run R)) (rest : List R) (tree : List (Option R)) (n : ℕ) → HasHeadsTo n runs rest tree → length tree ≤ n → length runs < length tree → HasHeads runs rest tree
  heads-all runs rest tree n heads whole room i =
      elim (cases_lt i n) as (λ _. get_or tree i None ≡ first_at runs rest i) [
        | inl k ↦ heads i k
        | inr k ↦ get_or_past tree i None (omega (arith, k, whole)) ∙ sym (first_at-none runs rest i (omega (arith, k, whole, room)))
      ]

module _ {R : Type 0} (cmp : R → R → Ordering) where
  not_before : (o : Option R) (x : R) → ((y : R) → o ≡ Some y → is_lt (cmp y x) ≡ false) → NotBefore cmp o (Some x)
  not_before None x h = tt
  not_before (Some y) x h = h y refl

  none_before : (o : Option R) → ((y : R) → o ≡ Some y → ⊥) → NotBefore cmp o None
  none_before None h = tt
  none_before (Some y) h = h y refl

  -- the winner is the first record of its run
  pub winner_run : (runs : List (Run R)) (rest : List R) (tree : List (Option R)) (leaf : ℕ) (x : R) (d : Run R) → HasHeads runs rest tree → IsLeastLeaf cmp tree leaf x → leaf < length runs → first_of (items_of (slice_index_or runs leaf d)) ≡ Some x
  winner_run runs rest tree leaf x d heads won h = sym (first_at-run runs rest leaf d h) ∙ sym (heads leaf) ∙ won.there

  -- or of the list
  pub winner_list : (runs : List (Run R)) (rest : List R) (tree : List (Option R)) (leaf : ℕ) (x : R) → HasHeads runs rest tree → IsLeastLeaf cmp tree leaf x → length runs ≤ leaf → (leaf ≡ length runs) × (Some x ≡ first_of rest)
  winner_list runs rest tree leaf x heads won h =
      elim (cases_eq leaf (length runs)) as (λ _. (leaf ≡ length runs) × (Some x ≡ first_of rest)) [
        | inl e ↦ (e, sym won.there ∙ heads leaf ∙ ap (first_at runs rest) e ∙ first_at-list runs rest)
        | inr other ↦ (let e : None ≡ Some x = sym (first_at-none runs rest leaf (above other)) ∙ sym (heads leaf) ∙ won.there in absurd (cc))
      ]
    where
      above : (leaf ≡ length runs → ⊥) → length runs < leaf
      above other = elim (cases_lt (length runs) leaf) as (λ _. length runs < leaf) [ inl k ↦ k | inr k ↦ absurd (other (omega (arith, h, k))) ]

  -- the winner is the best
  pub winner_best : (runs : List (Run R)) (rest : List R) (tree : List (Option R)) (leaf : ℕ) (x : R) → HasHeads runs rest tree → IsLeastLeaf cmp tree leaf x → IsBest cmp runs (first_of rest) leaf (Some x)
  winner_best runs rest tree leaf x heads won =
      record {
        runs_after = λ i d h. not_before (first_of (items_of (slice_index_or runs i d))) x (λ y e. won.least i y (heads i ∙ first_at-run runs rest i d h ∙ e));
        head_after = not_before (first_of rest) x (λ y e. won.least (length runs) y (heads (length runs) ∙ first_at-list runs rest ∙ e));
        from_is =
            elim (cases_lt leaf (length runs)) as (λ _. ((leaf ≡ length runs) × (Some x ≡ first_of rest)) ⊎ ((leaf < length runs) × IsSome (Some x) × ((d : Run R) → first_of (items_of (slice_index_or runs leaf d)) ≡ Some x))) [
              | inl h ↦ inr (h, refl, λ d. winner_run runs rest tree leaf x d heads won h)
              | inr h ↦ inl (winner_list runs rest tree leaf x heads won h)
            ];
      }

  -- without a winner there is no best
  pub no_winner_best : (runs : List (Run R)) (rest : List R) (tree : List (Option R)) → HasHeads runs rest tree → HasNoItems tree → IsBest cmp runs (first_of rest) (length runs) None
  no_winner_best runs rest tree heads none =
      record {
        runs_after = λ i d h. none_before (first_of (items_of (slice_index_or runs i d))) (λ y e. none i y (heads i ∙ first_at-run runs rest i d h ∙ e));
        head_after = none_before (first_of rest) (λ y e. none (length runs) y (heads (length runs) ∙ first_at-list runs rest ∙ e));
        from_is = inl (refl, nothing (first_of rest) (λ y e. none (length runs) y (heads (length runs) ∙ first_at-list runs rest ∙ e)));
      }
    where
      nothing : (o : Option R) → ((y : R) → o ≡ Some y → ⊥) → None ≡ o
      nothing None h = refl
      nothing (Some y) h = absurd (h y refl)

pub some_first : {X : Type 0} (xs : List X) (x : X) → first_of xs ≡ Some x → 0 < length xs
some_first [] x e = absurd (cc)
some_first (y ∷ ys) x e = omega arith
