-- The root's winner is the smallest: no leaf is ahead of it.
use Rattle.std.proofs.Common.{◌≡◌, ℕ, zero, suc, ◌+◌, ◌*◌, ◌/◌, ◌<◌, ◌≤◌, true, false, cond, List, length, get_or, Option, Some, None, refl, sym, ap, subst, inl, inr, ◌∙◌, arith, true≢false}
use Rattle.std.specs.Prelude.{⊤}
use Rattle.std.specs.declared.cmp.Ordering.{Ordering}
use Rattle.std.specs.declared.cmp.Ordering.TheVariants.{Less, Equal, Greater}
use Rattle.std.specs.Ordering.{is_lt, nat_cmp, ordering_then, ordering_reverse}
use Rattle.std.specs.Cmp.{IsTotalOrder, IsStrictWeakOrder, nat_cmp_is}
use Rattle.std.proofs.lemmas.Bool.{cases_Bool, cases_lt, cases_eq}
use Rattle.std.proofs.lemmas.Cmp.{nat_cmp_total, on_total, then_total}
use Rattle.std.proofs.lemmas.List.{get_or_read, get_or_past}
use Rattle.std.proofs.lemmas.List.Sorted.{ranks_by}
use Rattle.ppq_tree.specs.Tree.{ahead, chosen, winner_at, HasItem, HasNoItems, IsLeastLeaf, IsPlayed, IsMinTree}
use Rattle.ppq_tree.proofs.Tree.{root_within}

-- an item with its leaf
named : {X : Type 0} → ℕ → Option X → Option (X × ℕ)
named leaf None = None
named leaf (Some x) = Some (x, leaf)

not_before : (j i : ℕ) → is_lt (nat_cmp j i) ≡ false → i ≤ j
not_before j i h =
    elim (cases_lt j i) as (λ _. i ≤ j) [ inr e ↦ e | inl e ↦ (let m = nat_cmp_is j i Less e in let k : true ≡ is_lt (nat_cmp j i) = ap is_lt m in cc) ]

module _ {X : Type 0} (cmp : X → X → Ordering) (o : IsTotalOrder cmp) where
  pub ahead_order : IsStrictWeakOrder (ahead cmp)
  ahead_order = ranks_by (then_total (on_total (λ (p : X × ℕ). p.0) o) (on_total (λ (p : X × ℕ). p.1) nat_cmp_total)) (λ p. p)

  -- b is not ahead of a
  Beats : Option (X × ℕ) → Option (X × ℕ) → Type 0
  Beats a None = ⊤
  Beats None (Some y) = ⊥
  Beats (Some x) (Some y) = ahead cmp y x ≡ false

  Beats-refl : (a : Option (X × ℕ)) → Beats a a
  unfolding Beats
  Beats-refl None = tt
  Beats-refl (Some x) = elim (cases_Bool (ahead cmp x x)) as (λ _. ahead cmp x x ≡ false) [ inl e ↦ ahead_order.one_way x x e | inr e ↦ e ]

  Beats-trans : (a b c : Option (X × ℕ)) → Beats a b → Beats b c → Beats a c
  unfolding Beats
  Beats-trans a b None h k = tt
  Beats-trans a None (Some z) h k = absurd k
  Beats-trans None (Some y) (Some z) h k = absurd h
  Beats-trans (Some x) (Some y) (Some z) h k = ahead_order.chain z y x k h

  -- the winner of a match beats both
  chosen_beats :
      (f : ℕ → Option X) (x y : Option X) (one other : ℕ) → f one ≡ x → f other ≡ y
      → Beats (named (chosen cmp x y one other) (f (chosen cmp x y one other))) (named one x) × Beats (named (chosen cmp x y one other) (f (chosen cmp x y one other))) (named other y)
  unfolding Beats named
  chosen_beats f None y one other h k = (tt, subst (λ v. Beats (named other v) (named other y)) (sym k) (Beats-refl (named other y)))
  chosen_beats f (Some x) None one other h k = (subst (λ v. Beats (named one v) (named one (Some x))) (sym h) (Beats-refl (named one (Some x))), tt)
  chosen_beats f (Some x) (Some y) one other h k =
      elim (cases_Bool (ahead cmp (y, other) (x, one))) as (λ _. Beats (named (cond (ahead cmp (y, other) (x, one)) other one) (f (cond (ahead cmp (y, other) (x, one)) other one))) (Some (x, one)) × Beats (named (cond (ahead cmp (y, other) (x, one)) other one) (f (cond (ahead cmp (y, other) (x, one)) other one))) (Some (y, other))) [
        | inl e ↦ rw e (subst (λ v. Beats (named other v) (Some (x, one))) (sym k) (ahead_order.one_way (y, other) (x, one) e), subst (λ v. Beats (named other v) (Some (y, other))) (sym k) (Beats-refl (Some (y, other))))
        | inr e ↦ rw e (subst (λ v. Beats (named one v) (Some (x, one))) (sym h) (Beats-refl (Some (x, one))), subst (λ v. Beats (named one v) (Some (y, other))) (sym h) e)
      ]

  pub not_ahead : (x y : X) (i j : ℕ) → ahead cmp (y, j) (x, i) ≡ false → (is_lt (cmp y x) ≡ false) × (is_lt (cmp x y) ≡ false → i ≤ j)
  not_ahead x y i j h =
      let turn = o.antisymm x y in
      let P : Ordering → Type 0 = λ r. is_lt (ordering_then r (nat_cmp j i)) ≡ false → (is_lt r ≡ false) × (is_lt (ordering_reverse r) ≡ false → i ≤ j) in
      let all : (r : Ordering) → P r = λ r. elim r as P [
        | Less ↦ (λ k. absurd (true≢false k))
        | Equal ↦ (λ k. (refl, λ _. not_before j i k))
        | Greater ↦ (λ k. (refl, λ q. absurd (true≢false q)))
      ] in
      let r = all (cmp y x) h in
      (r.0, λ q. r.1 (ap is_lt (sym turn) ∙ q))

  module _ (items : List (Option X)) (winners : List ℕ) (t : IsMinTree cmp items winners) where
    -- the winner at a node with its item
    won : ℕ → Option (X × ℕ)
    won u = named (winner_at winners u) (get_or items (winner_at winners u) None)

    wins_of_children : (u : ℕ) → 0 < u → u < length items → Beats (won u) (won (2 * u)) × Beats (won u) (won (2 * u + 1))
    unfolding won IsPlayed
    wins_of_children u z l =
        let a = winner_at winners (2 * u) in
        let b = winner_at winners (2 * u + 1) in
        let k = chosen_beats (λ i. get_or items i None) (get_or items a None) (get_or items b None) a b refl refl in
        let e = t.matches u z l in
        (subst (λ w. Beats (named w (get_or items w None)) (won (2 * u))) (sym e) k.0, subst (λ w. Beats (named w (get_or items w None)) (won (2 * u + 1))) (sym e) k.1)

    top_beats : (fuel u : ℕ) → u ≤ fuel → 0 < u → u < 2 * length items → Beats (won 1) (won u)
    top_beats zero u f z l = absurd (omega arith)
    top_beats (suc fuel) u f z l =
        elim (cases_lt 1 u) as (λ _. Beats (won 1) (won u)) [
          | inr small ↦ (let e : 1 ≡ u = omega arith in subst (λ v. Beats (won 1) (won v)) e (Beats-refl (won 1)))
          | inl big ↦
              let p = u / 2 in
              let b = wins_of_children p (omega arith) (omega arith) in
              let here : Beats (won p) (won u) =
              elim (cases_eq u (2 * p)) as (λ _. Beats (won p) (won u)) [
                | inl e ↦ subst (λ v. Beats (won p) (won v)) (sym e) b.0
                | inr e ↦ (let e2 : 2 * p + 1 ≡ u = omega arith in subst (λ v. Beats (won p) (won v)) e2 b.1)
              ] in
              Beats-trans (won 1) (won p) (won u) (top_beats fuel p (omega arith) (omega arith) (omega arith)) here
        ]

    -- a leaf that has an item stands at its node
    at_leaf : (j : ℕ) (y : X) → HasItem items j y → (j < length items) × (won (length items + j) ≡ Some (y, j))
    unfolding won named
    at_leaf j y h =
        elim (cases_lt j (length items)) as (λ _. (j < length items) × (won (length items + j) ≡ Some (y, j))) [
          | inl l ↦ (l, ap (λ w. named w (get_or items w None)) (t.leaves j l) ∙ ap (named j) h)
          | inr l ↦ (let z : get_or items j None ≡ None = get_or_past items j None l in cc)
        ]

    beaten : (j : ℕ) (y : X) → HasItem items j y → Beats (won 1) (Some (y, j))
    beaten j y h =
        let a = at_leaf j y h in
        let l = a.0 in
        subst (Beats (won 1)) a.1 (top_beats (length items + j) (length items + j) (omega arith) (omega arith) (omega arith))

    root_is_least : (x : X) → HasItem items (winner_at winners 1) x → IsLeastLeaf cmp items (winner_at winners 1) x
    unfolding won named Beats
    root_is_least x h =
        let top : won 1 ≡ Some (x, winner_at winners 1) = ap (named (winner_at winners 1)) h in
        let none_ahead : (j : ℕ) (y : X) → HasItem items j y → ahead cmp (y, j) (x, winner_at winners 1) ≡ false = λ j y k.
        (let b : Beats (Some (x, winner_at winners 1)) (Some (y, j)) = subst (λ c. Beats c (Some (y, j))) top (beaten j y k) in b) in
        record {
          there = h;
          least = λ j y k. (not_ahead x y (winner_at winners 1) j (none_ahead j y k)).0;
          lowest = λ j y k q. (not_ahead x y (winner_at winners 1) j (none_ahead j y k)).1 q;
        }

    root_is_none : get_or items (winner_at winners 1) None ≡ None → HasNoItems items
    unfolding won named Beats
    root_is_none h j y k =
        let top : won 1 ≡ None = ap (named (winner_at winners 1)) h in
        let b : Beats None (Some (y, j)) = subst (λ c. Beats c (Some (y, j))) top (beaten j y k) in b

    -- the same of the item that was read there, where the items are those that the tree shows
    module _ (shown : List (Option X)) (item : Option X) (same : items ≡ shown) (some : 0 < length items) (read : item ≡ get_or items (winner_at winners 1) item) where
      root_item : get_or items (winner_at winners 1) None ≡ item
      root_item = sym (get_or_read items (winner_at winners 1) item (root_within cmp items winners some t) read None)

      pub least_read : (x : X) → item ≡ Some x → IsLeastLeaf cmp shown (winner_at winners 1) x
      least_read x is = subst (λ xs. IsLeastLeaf cmp xs (winner_at winners 1) x) same (root_is_least x (root_item ∙ is))

      pub none_read : item ≡ None → HasNoItems shown
      none_read is = subst HasNoItems same (root_is_none (root_item ∙ is))
