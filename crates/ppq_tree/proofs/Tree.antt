-- Playing matches: which are out of date when a leaf changes, and how one match after the other is put right.
use Rattle.std.proofs.Common.{◌≡◌, ◌≢◌, ℕ, zero, suc, ◌+◌, ◌-◌, ◌*◌, ◌/◌, ◌<◌, ◌≤◌, true, false, cond, List, length, get_or, set, Option, None, refl, sym, ap, ap₂, subst, inl, inr, ◌∙◌, arith}
use Rattle.std.specs.Prelude.{◌⊎◌}
use Rattle.std.specs.declared.cmp.Ordering.{Ordering}
use Rattle.std.proofs.lemmas.Bool.{cases_lt, cases_eq}
use Rattle.std.proofs.lemmas.List.{get_or-set_same, get_or-set_other, length-set}
use Rattle.ppq_tree.specs.Tree.{other_wins, chosen, better, winner_at, IsPlayed, IsMinTree, up, IsOnWayUp, IsTreeAbove}

up_half : (levels node : ℕ) → up levels (node / 2) ≡ up levels node / 2
up_half zero node = refl
up_half (suc levels) node = up_half levels (node / 2)

up_zero : (levels : ℕ) → up levels 0 ≡ 0
up_zero zero = refl
up_zero (suc levels) = up_zero levels

module _ {X : Type 0} (cmp : X → X → Ordering) where
  -- one of the two wins
  pub chosen_is : (x y : Option X) (one other : ℕ) → (chosen cmp x y one other ≡ one) ⊎ (chosen cmp x y one other ≡ other)
  chosen_is x y one other =
      elim (other_wins cmp x y one other) as (λ v. (cond v other one ≡ one) ⊎ (cond v other one ≡ other)) [ true ↦ inr refl | false ↦ inl refl ]

  -- the winner of two leaves is a leaf
  pub chosen_within : (n : ℕ) (x y : Option X) (one other : ℕ) → one < n → other < n → chosen cmp x y one other < n
  chosen_within n x y one other h k =
      elim (chosen_is x y one other) as (λ _. chosen cmp x y one other < n) [ inl e ↦ subst (λ v. v < n) (sym e) h | inr e ↦ subst (λ v. v < n) (sym e) k ]

  -- a write at another node leaves a match as it was
  match_kept :
      (items : List (Option X)) (winners : List ℕ) (at v node : ℕ) → node ≢ at → 2 * node ≢ at → 2 * node + 1 ≢ at
      → IsPlayed cmp items winners node → IsPlayed cmp items (set winners at v) node
  unfolding IsPlayed
  match_kept items winners at v node h k l p =
      get_or-set_other winners at node v 0 h ∙ (p ∙ ap₂ (better cmp items) (sym (get_or-set_other winners at (2 * node) v 0 k)) (sym (get_or-set_other winners at (2 * node + 1) v 0 l)))

  -- a match that is played
  match_played :
      (items : List (Option X)) (winners : List ℕ) (node v : ℕ) → 0 < node → node < length winners
      → v ≡ better cmp items (winner_at winners (2 * node)) (winner_at winners (2 * node + 1)) → IsPlayed cmp items (set winners node v) node
  unfolding IsPlayed
  match_played items winners node v z l e =
      get_or-set_same winners node v 0 l ∙ (e ∙ ap₂ (better cmp items) (sym (get_or-set_other winners node (2 * node) v 0 (λ q. omega arith))) (sym (get_or-set_other winners node (2 * node + 1) v 0 (λ q. omega arith))))

  not_below : (u node : ℕ) → u ≢ node → (IsOnWayUp u (node / 2) → ⊥) → (levels : ℕ) → up levels node ≡ u → ⊥
  not_below u node n not zero e = n (sym e)
  not_below u node n not (suc levels) e = not (levels, e)

  -- a match is played on the way up: now only those above it may be out of date
  pub climbed :
      (items : List (Option X)) (winners : List ℕ) (node v : ℕ) → 0 < node → node < length items → IsTreeAbove cmp items winners node
      → v ≡ better cmp items (winner_at winners (2 * node)) (winner_at winners (2 * node + 1)) → IsTreeAbove cmp items (set winners node v) (node / 2)
  climbed items winners node v z l t e =
      let size = t.size in
      let there : node < length winners = omega arith in
      let here : v < length items = subst (λ w. w < length items) (sym e) (chosen_within (length items) _ _ _ _ (t.within (2 * node) (omega arith) (omega arith)) (t.within (2 * node + 1) (omega arith) (omega arith))) in
      record {
        size = length-set winners node v ∙ size;
        leaves = λ leaf h. get_or-set_other winners node (length items + leaf) v 0 (λ q. omega arith) ∙ t.leaves leaf h;
        within = λ u uz ul. elim (cases_eq u node) as (λ _. winner_at (set winners node v) u < length items) [
          | inl same ↦ subst (λ w. w < length items) (sym (ap (winner_at (set winners node v)) same ∙ get_or-set_same winners node v 0 there)) here
          | inr n ↦ subst (λ w. w < length items) (sym (get_or-set_other winners node u v 0 n)) (t.within u uz ul)
        ];
        matches = λ u uz ul not. elim (cases_eq u node) as (λ _. IsPlayed cmp items (set winners node v) u) [
          | inl same ↦ subst (IsPlayed cmp items (set winners node v)) (sym same) (match_played items winners node v z there e)
          | inr n ↦
              match_kept items winners node v u n (λ q. not (0, omega arith)) (λ q. not (0, omega arith))
              (t.matches u uz ul (λ way. not_below u node n not way.0 way.1))
        ];
      }

  -- at the root no match is out of date any more
  pub climbed_out : (items : List (Option X)) (winners : List ℕ) → IsTreeAbove cmp items winners 0 → IsMinTree cmp items winners
  climbed_out items winners t = record {
    size = t.size;
    leaves = t.leaves;
    matches = λ u uz ul. t.matches u uz ul (λ way. let e = way.1 in let z = up_zero way.0 in omega arith);
  }

  -- the winner at a node is a leaf below it
  below_node :
      (items : List (Option X)) (winners : List ℕ) → IsMinTree cmp items winners → (fuel u : ℕ) → 2 * length items ≤ u + fuel → 0 < u → u < 2 * length items
      → (winner_at winners u < length items) × IsOnWayUp u (length items + winner_at winners u)
  unfolding IsPlayed
  below_node items winners t zero u f z l = absurd (omega arith)
  below_node items winners t (suc fuel) u f z l =
      elim (cases_lt u (length items)) as (λ _. (winner_at winners u < length items) × IsOnWayUp u (length items + winner_at winners u)) [
        | inr e ↦
            let own : winner_at winners u ≡ u - length items = ap (winner_at winners) (omega arith) ∙ t.leaves (u - length items) (omega arith) in
            (omega arith, (0, omega arith))
        | inl e ↦
            let from : (c : ℕ) → u ≡ c / 2 → 0 < c → c < 2 * length items → 2 * length items ≤ c + fuel → winner_at winners u ≡ winner_at winners c → (winner_at winners u < length items) × IsOnWayUp u (length items + winner_at winners u) = λ c h cz cl cf w.
            (let r = below_node items winners t fuel c cf cz cl in
            let same = w in
            (subst (λ v. v < length items) (sym w) r.0, (suc r.1.0, up_half r.1.0 (length items + winner_at winners u) ∙ ap (λ v. up r.1.0 (length items + v) / 2) w ∙ ap (λ v. v / 2) r.1.1 ∙ sym h))) in
            elim (chosen_is (get_or items (winner_at winners (2 * u)) None) (get_or items (winner_at winners (2 * u + 1)) None) (winner_at winners (2 * u)) (winner_at winners (2 * u + 1))) as (λ _. (winner_at winners u < length items) × IsOnWayUp u (length items + winner_at winners u)) [
              | inl k ↦ from (2 * u) (omega arith) (omega arith) (omega arith) (omega arith) (t.matches u z e ∙ k)
              | inr k ↦ from (2 * u + 1) (omega arith) (omega arith) (omega arith) (omega arith) (t.matches u z e ∙ k)
            ]
      ]

  -- a leaf's item is written: only the matches above the leaf may be out of date
  leaf_written :
      (items : List (Option X)) (winners : List ℕ) (leaf : ℕ) (x : Option X) → leaf < length items → IsMinTree cmp items winners
      → IsTreeAbove cmp (set items leaf x) winners ((length items + leaf) / 2)
  unfolding IsPlayed
  leaf_written items winners leaf x l t =
      let n = length items in
      let long = length-set items leaf x in
      let below : (u : ℕ) → 0 < u → u < 2 * n → (winner_at winners u < n) × IsOnWayUp u (n + winner_at winners u) = λ u z h. below_node items winners t (2 * n) u (omega arith) z h in
      let other : (u c : ℕ) → (IsOnWayUp u ((n + leaf) / 2) → ⊥) → u ≡ c / 2 → 0 < c → c < 2 * n → winner_at winners c ≢ leaf = λ u c not h cz cl same.
      (let r = (below c cz cl).1 in
      not (r.0, up_half r.0 (n + leaf) ∙ ap (λ v. up r.0 (n + v) / 2) (sym same) ∙ ap (λ v. v / 2) r.1 ∙ sym h)) in
      record {
        size = t.size ∙ ap (λ k. 2 * k) (sym long);
        leaves = λ i h. ap (λ k. winner_at winners (k + i)) long ∙ t.leaves i (omega arith);
        within = λ u uz ul. subst (λ k. winner_at winners u < k) (sym long) (below u uz (omega arith)).0;
        matches = λ u uz ul not.
            t.matches u uz (omega arith)
            ∙ ap₂ (λ y z. chosen cmp y z (winner_at winners (2 * u)) (winner_at winners (2 * u + 1)))
            (sym (get_or-set_other items leaf (winner_at winners (2 * u)) x None (other u (2 * u) not (omega arith) (omega arith) (omega arith))))
            (sym (get_or-set_other items leaf (winner_at winners (2 * u + 1)) x None (other u (2 * u + 1) not (omega arith) (omega arith) (omega arith))));
      }

  -- the same with the node's number by the items that stand now
  pub leaf_written_at :
      (items : List (Option X)) (winners : List ℕ) (leaf : ℕ) (x : Option X) → leaf < length items → IsMinTree cmp items winners
      → IsTreeAbove cmp (set items leaf x) winners ((length (set items leaf x) + leaf) / 2)
  leaf_written_at items winners leaf x l t =
      subst (λ n. IsTreeAbove cmp (set items leaf x) winners ((n + leaf) / 2)) (sym (length-set items leaf x)) (leaf_written items winners leaf x l t)

-- a tree whose matches from a node on were played
pub record IsPlayedFrom {X : Type 0} (cmp : X → X → Ordering) (items : List (Option X)) (winners : List ℕ) (from : ℕ) : Type 0 where
  pub size : length winners ≡ 2 * length items
  pub leaves : (leaf : ℕ) → leaf < length items → winner_at winners (length items + leaf) ≡ leaf
  pub within : (node : ℕ) → from ≤ node → node < 2 * length items → winner_at winners node < length items
  pub matches : (node : ℕ) → from ≤ node → 0 < node → node < length items → IsPlayed cmp items winners node

module _ {X : Type 0} (cmp : X → X → Ordering) where
  -- before the first match
  pub played_none :
      (items : List (Option X)) (winners : List ℕ) → length winners ≡ 2 * length items → ((leaf : ℕ) → leaf < length items → winner_at winners (length items + leaf) ≡ leaf)
      → IsPlayedFrom cmp items winners (length items)
  played_none items winners s own = record {
    size = s;
    leaves = own;
    within = λ u f l. subst (λ w. w < length items) (sym (ap (winner_at winners) (omega arith) ∙ own (u - length items) (omega arith))) (omega arith);
    matches = λ u f z l. absurd (omega arith);
  }

  -- the match before is played
  pub played_more :
      (items : List (Option X)) (winners : List ℕ) (from node v : ℕ) → 0 < node → from ≡ node + 1 → from ≤ length items → IsPlayedFrom cmp items winners from
      → v ≡ better cmp items (winner_at winners (2 * node)) (winner_at winners (2 * node + 1)) → IsPlayedFrom cmp items (set winners node v) node
  played_more items winners from node v z f l t e =
      let size = t.size in
      let there : node < length winners = omega arith in
      let here : v < length items = subst (λ w. w < length items) (sym e) (chosen_within cmp (length items) _ _ _ _ (t.within (2 * node) (omega arith) (omega arith)) (t.within (2 * node + 1) (omega arith) (omega arith))) in
      record {
        size = length-set winners node v ∙ size;
        leaves = λ leaf h. get_or-set_other winners node (length items + leaf) v 0 (λ q. omega arith) ∙ t.leaves leaf h;
        within = λ u uf ul. elim (cases_eq u node) as (λ _. winner_at (set winners node v) u < length items) [
          | inl same ↦ subst (λ w. w < length items) (sym (ap (winner_at (set winners node v)) same ∙ get_or-set_same winners node v 0 there)) here
          | inr n ↦ subst (λ w. w < length items) (sym (get_or-set_other winners node u v 0 n)) (t.within u (omega arith) ul)
        ];
        matches = λ u uf uz ul. elim (cases_eq u node) as (λ _. IsPlayed cmp items (set winners node v) u) [
          | inl same ↦ subst (IsPlayed cmp items (set winners node v)) (sym same) (match_played cmp items winners node v z there e)
          | inr n ↦ match_kept cmp items winners node v u n (λ q. omega arith) (λ q. omega arith) (t.matches u (omega arith) uz ul)
        ];
      }

  -- the root's winner is a leaf
  pub root_within : (items : List (Option X)) (winners : List ℕ) → 0 < length items → IsMinTree cmp items winners → winner_at winners 1 < length items
  root_within items winners z t = (below_node cmp items winners t (2 * length items) 1 (omega arith) (omega arith) (omega arith)).0
