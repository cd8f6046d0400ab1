use Rattle.std.proofs.Common.{◌≡◌, ◌+◌, ◌<◌, ◌≤◌, length, get_or, sym, ◌∙◌, arith, rules}
use Rattle.ppq_record.specs.Order.{is_before}
use Rattle.ppq_record.specs.Runs.{list_at}
use Rattle.ppq_split.specs.Edge.{edge_places}
use Rattle.ppq_split.proofs.Cuts.{same_places}
use Rattle.ppq_split.proofs.Edges.{edge_length}
use Rattle.ppq_split.proofs.Filled.{total-more, each_more, total_within, within_each}
use Rattle.ppq_split.proofs.places.move_to.Goals as goal

pub overflow_add-sum : goal.overflow_add-sum
overflow_add-sum g c =
    let qs = g.Q.Listing.lists c.args.runs.now in
    let i = c.loop-run.invariant in
    let v = c.place_in-place.result in
    let k = c.loop-run.run in
    let here : k < length c.loop-run.cuts = search rules in
    let t = total-more c.loop-run.cuts k v here in
    let w = total_within _ qs (k + 1) (each_more (λ j x. x ≤ length (list_at qs j)) c.loop-run.cuts k v here c.place_in-place.ensures.within i.within) in
    let a = i.adds_up in
    let r = c.requires.room in
    omega arith

pub loop-run-preserved : goal.loop-run-preserved
loop-run-preserved g c =
    let qs = g.Q.Listing.lists c.args.runs.now in
    let i = c.loop-run.invariant in
    let v = c.place_in-place.result in
    let k = c.loop-run.run in
    let a = i.adds_up in
    let here : k < length c.loop-run.cuts = search rules in
    let t = total-more c.loop-run.cuts k v here in
    record {
      adds_up = omega arith;
      within = each_more (λ j x. x ≤ length (list_at qs j)) c.loop-run.cuts k v here c.place_in-place.ensures.within i.within;
      places = λ up. each_more (λ j x. x ≡ get_or (edge_places (is_before g.R.Ord.cmp) qs c.args.edge.now) j 0) c.loop-run.cuts k v here (c.place_in-place.ensures.place up) (i.places up);
    }

pub returns-clause-within : goal.returns-clause-within
returns-clause-within g c =
    let qs = g.Q.Listing.lists c.args.runs.now in
    within_each c.loop-run.cuts qs c.loop-run.run (search rules) (search rules) c.loop-run.invariant.within

pub returns-clause-places : goal.returns-clause-places
returns-clause-places g c =
    let qs = g.Q.Listing.lists c.args.runs.now in
    let lt = is_before g.R.Ord.cmp in
    let past : length qs ≤ c.loop-run.run = search rules in
    let same : length c.loop-run.cuts ≡ length qs = search rules in
    λ up. same_places c.loop-run.cuts (edge_places lt qs c.args.edge.now) (same ∙ sym (edge_length lt qs c.args.edge.now)) (λ j h. c.loop-run.invariant.places up j (omega arith))
