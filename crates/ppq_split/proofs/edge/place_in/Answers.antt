use Rattle.std.proofs.Common.{◌≡◌, ◌≤◌, length, get_or, sym, ap, subst, ◌∙◌, rules}
use Rattle.ppq_record.specs.Order.{is_before}
use Rattle.ppq_record.specs.Runs.{list_at}
use Rattle.ppq_split.specs.declared.edge.Edge.TheVariants.{At}
use Rattle.ppq_split.specs.Edge.{edge_places, IsEdge}
use Rattle.ppq_split.proofs.Cuts.{starts-at, ends-at}
use Rattle.ppq_split.proofs.Edges.{edge_within, rising_run}
use Rattle.ppq_split.proofs.Marks.{mark_own, mark_lower, mark_higher}
use Rattle.ppq_split.proofs.edge.place_in.Goals as goal

pub returns-in-Start-clause-place : goal.returns-in-Start-clause-place
returns-in-Start-clause-place g c =
    let qs = g.Q.Listing.lists c.args.runs.now in
    λ _. sym (ap (λ e. get_or (edge_places (is_before g.R.Ord.cmp) qs e) c.args.run 0) c.in-Start.is ∙ starts-at qs c.args.run)

pub returns-in-End-clause-place : goal.returns-in-End-clause-place
returns-in-End-clause-place g c =
    let qs = g.Q.Listing.lists c.args.runs.now in
    λ _. c.len.ensures ∙ sym (ap (λ e. get_or (edge_places (is_before g.R.Ord.cmp) qs e) c.args.run 0) c.in-End.is ∙ ends-at qs c.args.run c.requires.run)

pub returns-then-run-own-clause-place : goal.returns-then-run-own-clause-place
returns-then-run-own-clause-place g c =
    let qs = g.Q.Listing.lists c.args.runs.now in
    let lt = is_before g.R.Ord.cmp in
    λ up. c.count_before.ensures.counts (rising_run lt qs up c.args.run) ∙ sym (ap (λ e. get_or (edge_places lt qs e) c.args.run 0) c.in-At.is ∙ mark_lower lt c.in-At.item c.in-At.place c.in-At.own qs c.args.run c.if-run-own.true c.requires.run)

pub returns-then-run-own-2-clause-place : goal.returns-then-run-own-2-clause-place
returns-then-run-own-2-clause-place g c =
    let qs = g.Q.Listing.lists c.args.runs.now in
    let lt = is_before g.R.Ord.cmp in
    λ up. c.count_before-then-run-own-2.ensures.counts (rising_run lt qs up c.args.run) ∙ sym (ap (λ e. get_or (edge_places lt qs e) c.args.run 0) c.in-At.is ∙ mark_higher lt c.in-At.item c.in-At.place c.in-At.own qs c.args.run c.if-run-own-2.true c.requires.run)

pub returns-else-run-own-2-clause-within : goal.returns-else-run-own-2-clause-within
returns-else-run-own-2-clause-within g c =
    let qs = g.Q.Listing.lists c.args.runs.now in
    let lt = is_before g.R.Ord.cmp in
    let own : c.args.run ≡ c.in-At.own = search rules in
    let h = edge_within lt qs c.in-At.item c.in-At.own c.in-At.place (subst (IsEdge lt qs) c.in-At.is c.requires.edge) in
    subst (λ n. c.in-At.place ≤ length (list_at qs n)) (sym own) h

pub returns-else-run-own-2-clause-place : goal.returns-else-run-own-2-clause-place
returns-else-run-own-2-clause-place g c =
    let qs = g.Q.Listing.lists c.args.runs.now in
    let lt = is_before g.R.Ord.cmp in
    let own : c.args.run ≡ c.in-At.own = search rules in
    λ _. sym (ap (λ e. get_or (edge_places lt qs e) c.args.run 0) c.in-At.is ∙ (subst (λ n. get_or (edge_places lt qs (At c.in-At.item n c.in-At.place)) c.args.run 0 ≡ c.in-At.place) own (mark_own lt c.in-At.item c.in-At.place c.args.run qs c.requires.run)))
