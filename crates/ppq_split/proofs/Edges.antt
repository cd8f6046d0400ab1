-- Edges of runs that ascend are cuts, and marks are edges.
use Rattle.std.proofs.Common.{◌≡◌, ℕ, zero, suc, ◌+◌, ◌<◌, ◌≤◌, ◌^◌, Bool, List, [], ◌∷◌, length, get_or, sym, subst, inl, inr, ◌∙◌, arith}
use Rattle.std.specs.Prelude.{slice_get, Some}
use Rattle.std.specs.List.{AllByRecursion as Each}
use Rattle.std.specs.Cmp.{IsStrictWeakOrder}
use Rattle.std.proofs.lemmas.Bool.{cases_lt}
use Rattle.std.proofs.lemmas.List.Elements.{All-from_recursion}
use Rattle.ppq_record.specs.Order.{Le, Rising}
use Rattle.ppq_record.specs.Runs.{list_at}
use Rattle.ppq_record.proofs.Order.{Le-refl}
use Rattle.ppq_split.specs.Bounds.{AreBounds, IsBetween}
use Rattle.ppq_split.specs.Cut.{total, IsCutBy}
use Rattle.ppq_split.specs.declared.bounds.Bounds.{Bounds}
use Rattle.ppq_split.specs.declared.edge.Edge.{Edge}
use Rattle.ppq_split.specs.declared.edge.Edge.TheVariants.{Start, End, At}
use Rattle.ppq_split.specs.declared.mark.Mark.{Mark}
use Rattle.ppq_split.specs.Edge.{starts, ends, mark_places, edge_places, IsPartedBy, IsEdge}
use Rattle.ppq_split.specs.Mark.{IsMark}
use Rattle.ppq_split.proofs.Cuts.{starts-length, ends-length, starts-cut, ends-cut, starts-total, IsCut-rises, total-le}
use Rattle.ppq_split.proofs.Marks.{mark_cut, mark_own, total_one, mark_length}
use Rattle.ppq_split.proofs.Windows.{at_get}

pub edge_within : {X : Type 0} (lt : X → X → Bool) (qs : List (List X)) (x : X) (i p : ℕ) → IsEdge lt qs (At x i p) → p ≤ length (list_at qs i)
unfolding IsEdge
edge_within lt qs x i p h = h.1

-- each run of runs that ascend
pub rising_run : {X : Type 0} (lt : X → X → Bool) (qs : List (List X)) → Each (Rising lt) qs → (k : ℕ) → Rising lt (list_at qs k)
rising_run lt [] r k = tt
rising_run lt (q ∷ qs) r zero = r.0
rising_run lt (q ∷ qs) r (suc k) = rising_run lt qs r.1 k

pub start_edge : {X : Type 0} (lt : X → X → Bool) (qs : List (List X)) → IsEdge lt qs Start
unfolding IsEdge
start_edge lt qs = tt

pub end_edge : {X : Type 0} (lt : X → X → Bool) (qs : List (List X)) → IsEdge lt qs End
unfolding IsEdge
end_edge lt qs = tt

pub edge_length : {X : Type 0} (lt : X → X → Bool) (qs : List (List X)) (e : Edge X) → length (edge_places lt qs e) ≡ length qs
edge_length lt qs Start = starts-length qs
edge_length lt qs End = ends-length qs
edge_length lt qs (At x i p) = mark_length lt x p i qs

module _ {X : Type 0} (lt : X → X → Bool) (o : IsStrictWeakOrder lt) where
  -- two records of a run that ascends
  pub rising_at : (q : List X) → Rising lt q → (a b : ℕ) (d : X) → a ≤ b → b < length q → Le lt (get_or q a d) (get_or q b d)
  rising_at [] r a b d h l = absurd (omega arith)
  rising_at (x ∷ q) r zero zero d h l = Le-refl lt o x
  rising_at (x ∷ q) r zero (suc b) d h l = All-from_recursion (Le lt x) q r.0 b d (omega arith)
  rising_at (x ∷ q) r (suc a) zero d h l = absurd (omega arith)
  rising_at (x ∷ q) r (suc a) (suc b) d h l = rising_at q r.1 a b d (omega arith) (omega arith)

  -- a record parts its run before it, and after it
  parts_from : (q : List X) (p n : ℕ) (x : X) → Rising lt q → slice_get q p ≡ Some x → p ≤ n → n ≤ p + 1 → IsPartedBy lt x n q
  parts_from q p n x r e low high =
      let there = (at_get q p x x e).1 in
      record {
        within = omega arith;
        left = λ a d l. subst (Le lt (get_or q a d)) (at_get q p x d e).0 (rising_at q r a p d (omega arith) there);
        right = λ b d l m. subst (λ z. Le lt z (get_or q b d)) (at_get q p x d e).0 (rising_at q r p b d (omega arith) m);
      }

  -- an edge of runs that ascend is a cut
  pub edge_cut : (qs : List (List X)) (e : Edge X) → Each (Rising lt) qs → IsEdge lt qs e → IsCutBy lt qs (total (edge_places lt qs e)) (edge_places lt qs e)
  unfolding IsEdge
  edge_cut qs Start up h = subst (λ r. IsCutBy lt qs r (starts qs)) (sym (starts-total qs)) (starts-cut lt qs)
  edge_cut qs End up h = ends-cut lt qs
  edge_cut qs (At x i p) up h = mark_cut lt o x p i qs up (h.2 up)

  -- a record of a run makes an edge before it, and one after it
  pub mark_edge : (qs : List (List X)) (m : Mark X) (n : ℕ) → IsMark qs m → m.place ≤ n → n ≤ m.place + 1 → IsEdge lt qs (At m.item m.run n)
  unfolding IsEdge
  mark_edge qs m n h low high =
      (h.0, omega (arith, (at_get (list_at qs m.run) m.place m.item m.item h.1).1), λ up. parts_from (list_at qs m.run) m.place n m.item (rising_run lt qs up m.run) h.1 low high)

  -- a record whose place lies between two edges
  pub mark_between :
      (qs : List (List X)) (b : Bounds X) (m : Mark X) → Each (Rising lt) qs → IsEdge lt qs b.low → IsEdge lt qs b.high → IsMark qs m
      → get_or (edge_places lt qs b.low) m.run 0 ≤ m.place → m.place < get_or (edge_places lt qs b.high) m.run 0 → IsBetween lt qs b m
  mark_between qs b m up hl hh is from to =
      let run = list_at qs m.run in
      let parted : (n : ℕ) → m.place ≤ n → n ≤ m.place + 1 → IsPartedBy lt m.item n run = λ n a c. parts_from run m.place n m.item (rising_run lt qs up m.run) is.1 a c in
      let t = total (mark_places lt m.item m.place m.run qs) in
      let own : (n : ℕ) → get_or (mark_places lt m.item n m.run qs) m.run 0 ≡ n = λ n. mark_own lt m.item n m.run qs is.0 in
      let here = mark_cut lt o m.item m.place m.run qs up (parted m.place (omega arith) (omega arith)) in
      let after = mark_cut lt o m.item (suc m.place) m.run qs up (parted (suc m.place) (omega arith) (omega arith)) in
      let more = total_one lt m.item m.place m.run qs is.0 in (
        elim (cases_lt t (total (edge_places lt qs b.low))) as (λ _. total (edge_places lt qs b.low) ≤ t) [
          | inr e ↦ e
          | inl e ↦ (let r = IsCut-rises lt qs _ _ _ _ after (edge_cut qs b.low up hl) (omega arith) m.run in let w = own (suc m.place) in absurd (let f : ⊥ = omega arith in f))
        ],
        elim (cases_lt t (total (edge_places lt qs b.high))) as (λ _. t < total (edge_places lt qs b.high)) [
          | inl e ↦ e
          | inr e ↦ (let r = IsCut-rises lt qs _ _ _ _ (edge_cut qs b.high up hh) here e m.run in let w = own m.place in absurd (let f : ⊥ = omega arith in f))
        ],
      )

  -- where no run has a record between two edges
  pub none_between :
      (qs : List (List X)) (low high : Edge X) (n : ℕ) → length qs ≤ n
      → ((j : ℕ) → j < n → get_or (edge_places lt qs high) j 0 ≤ get_or (edge_places lt qs low) j 0)
      → total (edge_places lt qs high) ≤ total (edge_places lt qs low)
  none_between qs low high n l h =
      let a = edge_length lt qs high in
      let b = edge_length lt qs low in
      total-le (edge_places lt qs high) (edge_places lt qs low) (a ∙ sym b) (λ i k. h i (omega arith))

  -- places that an edge's are, at their rank
  pub moved_cut : (qs : List (List X)) (e : Edge X) (cs : List ℕ) (r : ℕ) → Each (Rising lt) qs → IsEdge lt qs e → cs ≡ edge_places lt qs e → r ≡ total (edge_places lt qs e) → IsCutBy lt qs r cs
  moved_cut qs e cs r up h same rank = subst (λ n. IsCutBy lt qs n cs) (sym rank) (subst (λ x. IsCutBy lt qs (total (edge_places lt qs e)) x) (sym same) (edge_cut qs e up h))

-- the bounds with which a search begins
pub start_bounds :
    {X : Type 0} (lt : X → X → Bool) (qs : List (List X)) (rank : ℕ) (b : Bounds X)
    → b.low ≡ Start → b.low_rank ≡ 0 → b.high ≡ End → rank < b.high_rank → b.high_rank < 2 ^ 64 → (Each (Rising lt) qs → b.high_rank ≡ total (ends qs)) → AreBounds lt qs rank b
start_bounds lt qs rank b low nothing high above size all = record {
  low = rw low (start_edge lt qs);
  high = rw high (end_edge lt qs);
  below = omega arith;
  above = above;
  size = size;
  low_places = λ up. rw low (nothing ∙ sym (starts-total qs));
  high_places = λ up. rw high (all up);
}
