use Rattle.std.proofs.Common.{ℕ, ◌+◌, sym, ap, subst, ◌∙◌, arith, rules}
use Rattle.ppq_record.specs.Order.{is_before}
use Rattle.ppq_record.proofs.Fronts.{ranks}
use Rattle.ppq_split.specs.Cut.{total}
use Rattle.ppq_split.specs.declared.edge.Edge.{Edge}
use Rattle.ppq_split.specs.Edge.{edge_places, IsEdge}
use Rattle.ppq_split.proofs.Edges.{mark_edge, moved_cut}
use Rattle.ppq_split.proofs.Marks.{total_next}
use Rattle.ppq_split.proofs.bounds.try_mark.Goals as goal

pub move_near-at-requires-clause-edge : goal.move_near-at-requires-clause-edge
move_near-at-requires-clause-edge g c κs within =
    let qs = g.Q.Listing.lists c.args.runs.now in
    let lt = is_before g.R.Ord.cmp in
    let m = c.in-Some.mark in
    subst (IsEdge lt qs) (sym c.before-edge.ensures) (mark_edge lt (ranks c.record_laws.ensures.order) qs m m.place c.in-Some.ensures.mark (omega arith) (omega arith))

pub returns-then-at-rank-clause-cut : goal.returns-then-at-rank-clause-cut
returns-then-at-rank-clause-cut g c =
    let qs = g.Q.Listing.lists c.args.runs.now in
    let lt = is_before g.R.Ord.cmp in
    let o = ranks c.record_laws.ensures.order in
    let m = c.in-Some.mark in
    let e = c.move_near-at.ensures in
    let edge = subst (IsEdge lt qs) (sym c.before-edge.ensures) (mark_edge lt o qs m m.place c.in-Some.ensures.mark (omega arith) (omega arith)) in
    λ _ up. moved_cut lt o qs c.before-edge.result c.move_near-at.new.cuts c.args.rank up edge (e.places up) (sym c.if-at-rank.true ∙ (e.adds_up ∙ ap total (e.places up)))

pub returns-then-at-rank-2-clause-bounds : goal.returns-then-at-rank-2-clause-bounds
returns-then-at-rank-2-clause-bounds g c =
    let qs = g.Q.Listing.lists c.args.runs.now in
    let lt = is_before g.R.Ord.cmp in
    let m = c.in-Some.mark in
    let b = c.requires.bounds in
    let e = c.move_near-at.ensures in
    let below = c.if-at-rank-2.true in
    let places : Edge g.row.R.Denot → ℕ = λ x. total (edge_places lt qs x) in
    λ _. record {
      low = subst (IsEdge lt qs) (sym c.after-bounds.ensures) (mark_edge lt (ranks c.record_laws.ensures.order) qs m (m.place + 1) c.in-Some.ensures.mark (omega arith) (omega arith));
      high = b.high;
      below = omega arith;
      above = b.above;
      size = b.size;
      low_places = λ up.
          ap (λ n. n + 1) (e.adds_up ∙ (ap total (e.places up) ∙ ap places c.before-edge.ensures))
          ∙ (total_next lt m.item m.place m.run qs c.in-Some.ensures.mark.0 ∙ sym (ap places c.after-bounds.ensures));
      high_places = b.high_places;
    }

pub returns-else-at-rank-2-clause-bounds : goal.returns-else-at-rank-2-clause-bounds
returns-else-at-rank-2-clause-bounds g c =
    let qs = g.Q.Listing.lists c.args.runs.now in
    let lt = is_before g.R.Ord.cmp in
    let m = c.in-Some.mark in
    let b = c.requires.bounds in
    let e = c.move_near-at.ensures in
    let other = c.if-at-rank.false in
    let above = c.if-at-rank-2.false in
    λ _. record {
      low = b.low;
      high = subst (IsEdge lt qs) (sym c.before-edge.ensures) (mark_edge lt (ranks c.record_laws.ensures.order) qs m m.place c.in-Some.ensures.mark (omega arith) (omega arith));
      below = b.below;
      above = search rules;
      size = search rules;
      low_places = b.low_places;
      high_places = λ up. e.adds_up ∙ ap total (e.places up);
    }
