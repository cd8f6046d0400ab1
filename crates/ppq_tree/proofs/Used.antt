-- The cells of a tree's memory that are used, as the others are written and cut away.
use Rattle.std.proofs.Common.{◌≡◌, ℕ, ◌+◌, ◌-◌, ◌<◌, ◌≤◌, List, [], ◌∷◌, ◌++◌, length, drop, Option, refl, sym, ap, subst, ◌∙◌, inl, inr, arith}
use Rattle.std.proofs.lemmas.Bool.{cases_lt}
use Rattle.std.proofs.lemmas.List.{drop-append-le, length-drop, get_or_append_left, get_or-append_right}
use Rattle.std.proofs.Math.ListN.{drop_of_length-le}
use Rattle.std.specs.declared.cmp.Ordering.{Ordering}
use Rattle.ppq_tree.specs.Tree.{winner_at, IsMinTree}
use Rattle.ppq_tree.specs.Used.{used}

module _ {X : Type 0} where
  pub used_is : (all : List X) → drop 32 all ≡ used all
  unfolding used
  used_is all = refl

  -- none, where there are no more than 32
  pub used_none : (all : List X) → length all ≤ 32 → used all ≡ []
  unfolding used
  used_none all h = drop_of_length-le all h

  -- a cell more
  pub used-push : (all : List X) (x : X) → 32 ≤ length all → used (all ++ x ∷ []) ≡ used all ++ x ∷ []
  unfolding used
  used-push all x h = drop-append-le 32 all (x ∷ []) h

  pub used-append : (front rest : List X) → length front ≡ 32 → used (front ++ rest) ≡ rest
  unfolding used
  used-append front rest h = drop-append-le 32 front rest (omega arith) ∙ ap (λ xs. xs ++ rest) (drop_of_length-le front {i = 32} (omega arith))

  pub used-length : (all : List X) → length (used all) ≡ length all - 32
  unfolding used
  used-length all = length-drop 32 all

-- a leaf more has its own number
pub leaf_numbered :
    (winners : List ℕ) (leaves leaf : ℕ) → length winners ≡ leaves + leaf → ((i : ℕ) → i < leaf → winner_at winners (leaves + i) ≡ i)
    → (i : ℕ) → i < leaf + 1 → winner_at (winners ++ leaf ∷ []) (leaves + i) ≡ i
leaf_numbered winners leaves leaf n h i l =
    elim (cases_lt i leaf) as (λ _. winner_at (winners ++ leaf ∷ []) (leaves + i) ≡ i) [
      | inl k ↦ get_or_append_left winners (leaf ∷ []) 0 (leaves + i) (omega arith) ∙ h i k
      | inr k ↦
          let same : i ≡ leaf = omega arith in
          let first : (leaves + i) - (leaves + leaf) ≡ 0 = omega arith in
          get_or-append_right winners (leaf ∷ []) (leaves + leaf) (leaves + i) 0 n (omega arith) ∙ (ap (winner_at (leaf ∷ [])) first ∙ sym same)
    ]

-- a tree's lists, as they are read
pub tree_read :
    {X : Type 0} (cmp : X → X → Ordering) (items shown : List (Option X)) (winners known : List ℕ) → items ≡ shown → winners ≡ known
    → IsMinTree cmp shown known → IsMinTree cmp items winners
tree_read cmp items shown winners known e f t = subst (λ xs. IsMinTree cmp xs winners) (sym e) (subst (λ ws. IsMinTree cmp shown ws) (sym f) t)
