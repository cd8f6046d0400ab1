-- A match of a leaf that is carried up against its rival.
use Rattle.std.proofs.Common.{◌≡◌, ◌≢◌, ℕ, ◌+◌, ◌-◌, ◌*◌, ◌/◌, ◌<◌, ◌≤◌, true, false, cond, List, length, get_or, set, Option, Some, None, refl, sym, ap, ap₂, subst, inl, inr, ◌∙◌, arith}
use Rattle.std.specs.Prelude.{◌||◌, ◌&&◌, not, if◌then◌else◌}
use Rattle.std.proofs.Common.{nat_lt}
use Rattle.std.specs.declared.cmp.Ordering.{Ordering}
use Rattle.std.specs.declared.cmp.Ordering.TheVariants.{Less, Equal, Greater}
use Rattle.std.specs.Ordering.{nat_cmp, ordering_then, ordering_reverse, is_lt}
use Rattle.ppq_record.proofs.Joined.{less_is}
use Rattle.std.specs.Cmp.{IsTotalOrder}
use Rattle.std.proofs.lemmas.Bool.{cases_Bool, cases_eq}
use Rattle.ppq_tree.specs.Tree.{ahead, chosen, better, winner_at, HasItem, IsTreeAbove}
use Rattle.ppq_tree.proofs.Tree.{climbed}
use Rattle.ppq_tree.proofs.Order.{ahead_order, not_ahead}

module _ {X : Type 0} (cmp : X → X → Ordering) (o : IsTotalOrder cmp) where
  turned : (x y : X) (i j : ℕ) → cond (ahead cmp (y, j) (x, i)) j i ≡ cond (ahead cmp (x, i) (y, j)) i j
  turned x y i j =
      elim (cases_Bool (ahead cmp (y, j) (x, i))) as (λ _. cond (ahead cmp (y, j) (x, i)) j i ≡ cond (ahead cmp (x, i) (y, j)) i j) [
        | inl e ↦ rw (e, (ahead_order cmp o).one_way (y, j) (x, i) e) refl
        | inr e ↦
            elim (cases_Bool (ahead cmp (x, i) (y, j))) as (λ _. cond (ahead cmp (y, j) (x, i)) j i ≡ cond (ahead cmp (x, i) (y, j)) i j) [
              | inl f ↦ rw (e, f) refl
              | inr f ↦
                  (let a = not_ahead cmp o x y i j e in
                  let b = not_ahead cmp o y x j i f in
                  let low : i ≤ j = a.1 b.0 in
                  let high : j ≤ i = b.1 a.0 in
                  let same : i ≡ j = omega arith in
                  rw (e, f) same)
            ]
      ]

  chosen_turned : (a b : Option X) (i j : ℕ) → a ≢ None → chosen cmp a b i j ≡ chosen cmp b a j i
  chosen_turned None b i j e = absurd (e refl)
  chosen_turned (Some z) None i j e = refl
  chosen_turned (Some z) (Some y) i j e = turned z y i j

  -- it does not matter which of two leaves is named first where one has an item
  pub better_turned : (items : List (Option X)) (best rival : ℕ) (x : X) → HasItem items best x → better cmp items best rival ≡ better cmp items rival best
  better_turned items best rival x h = chosen_turned (get_or items best None) (get_or items rival None) best rival (λ n. let e : Some x ≡ None = sym h ∙ n in cc)

  -- a match against a rival is the match at the node above
  pub climbed_with :
      (items : List (Option X)) (winners : List ℕ) (child best v : ℕ) (x : X) → 1 < child → child < 2 * length items → IsTreeAbove cmp items winners (child / 2)
      → winner_at winners child ≡ best → HasItem items best x → v ≡ better cmp items best (winner_at winners (4 * (child / 2) + 1 - child))
      → IsTreeAbove cmp items (set winners (child / 2) v) (child / 2 / 2)
  climbed_with items winners child best v x z l t here h e =
      let u = child / 2 in
      climbed cmp items winners u v (omega arith) (omega arith) t
      (elim (cases_eq child (2 * u)) as (λ _. v ≡ better cmp items (winner_at winners (2 * u)) (winner_at winners (2 * u + 1))) [
        | inl even ↦
            (let rival : 4 * u + 1 - child ≡ 2 * u + 1 = omega arith in
            e ∙ ap₂ (better cmp items) (sym here ∙ ap (winner_at winners) even) (ap (winner_at winners) rival))
        | inr other ↦
            (let odd : child ≡ 2 * u + 1 = omega arith in
            let rival : 4 * u + 1 - child ≡ 2 * u = omega arith in
            e ∙ (better_turned items best _ x h ∙ ap₂ (better cmp items) (ap (winner_at winners) rival) (sym here ∙ ap (winner_at winners) odd)))
      ])

module _ {X : Type 0} (cmp : X → X → Ordering) (o : IsTotalOrder cmp) where
  -- what makes a leaf win, by tests alone
  pub ahead_is : (y x : X) (i j : ℕ) → (is_lt (cmp y x) || (not (is_lt (cmp x y)) && nat_lt i j)) ≡ ahead cmp (y, i) (x, j)
  ahead_is y x i j =
      let P : Ordering → Type 0 = λ r. (is_lt r || (not (is_lt (ordering_reverse r)) && nat_lt i j)) ≡ is_lt (ordering_then r (nat_cmp i j)) in
      let all : (r : Ordering) → P r = λ r. elim r as P [ Less ↦ refl | Equal ↦ less_is i j | Greater ↦ refl ] in
      ap (λ r. is_lt (cmp y x) || (not (is_lt r) && nat_lt i j)) (o.antisymm x y) ∙ all (cmp y x)

  -- the leaf that wins has the item that is less
  pub duel_item :
      (same : (a b : X) → cmp a b ≡ Equal → a ≡ b) (items : List (Option X)) (best rival : ℕ) (x y : X) → HasItem items best x → HasItem items rival y
      → HasItem items (if ahead cmp (y, rival) (x, best) then rival else best) (if is_lt (cmp y x) then y else x)
  duel_item same items best rival x y h k =
      let P : Ordering → Type 0 = λ r. (r ≡ Equal → y ≡ x) → HasItem items (if is_lt (ordering_then r (nat_cmp rival best)) then rival else best) (if is_lt r then y else x) in
      let all : (r : Ordering) → P r = λ r. elim r as P [
        | Less ↦ (λ e. k)
        | Equal ↦ (λ e. elim (is_lt (nat_cmp rival best)) as (λ v. HasItem items (if v then rival else best) x) [ true ↦ subst (HasItem items rival) (e refl) k | false ↦ h ])
        | Greater ↦ (λ e. h)
      ] in
      all (cmp y x) (same y x)
