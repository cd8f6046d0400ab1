use Rattle.std.proofs.Common.{ap, ◌∙◌, arith}
use Rattle.ppq_array.proofs.ppq_record.Fronts.{ranks}
use Rattle.ppq_fetch.specs.Edges.{edge_of}
use Rattle.ppq_fetch.proofs.Waiting.{planned, planned_odd}
use Rattle.ppq_fetch.proofs.plan.plan_turn.Goals as goal

pub returns-in-Some-clause-plan : goal.returns-in-Some-clause-plan
returns-in-Some-clause-plan g c =
    let next = c.next_block-next in
    planned g.R.Ord.cmp (ranks c.record_laws.ensures.order) g.R.Record.record_of g.R.Record.WIDTH g.S.Slot.shown c.args.internal.now c.args.external.now c.args.below c.requires.may.none_lifted c.requires.hints.labelled
    next.result c.choose_edge-edge.result c.mark_runs-safe.new.places c.mark_runs-safe.result c.args.room c.args.ahead next.ensures
    (c.choose_edge-edge.ensures ∙ ap (λ f. edge_of g.R.Ord.cmp f c.args.below) c.first_of.ensures) c.mark_runs-safe.ensures.marked c.in-Some.turn c.in-Some.ensures c.requires.room

pub returns-in-None-clause-plan : goal.returns-in-None-clause-plan
returns-in-None-clause-plan g c =
    let next = c.next_block-next in
    planned_odd g.R.Ord.cmp (ranks c.record_laws.ensures.order) g.R.Record.record_of g.R.Record.WIDTH g.S.Slot.shown c.args.internal.now c.args.external.now c.args.below c.requires.may.none_lifted c.requires.hints.labelled
    next.result c.choose_edge-edge.result c.mark_runs-safe.new.places c.mark_runs-safe.result c.args.room c.args.ahead next.ensures
    (c.choose_edge-edge.ensures ∙ ap (λ f. edge_of g.R.Ord.cmp f c.args.below) c.first_of.ensures) c.mark_runs-safe.ensures.marked c.in-None.ensures c.mark_runs-all.new.places c.mark_runs-all.result c.min.result c.mark_runs-all.ensures.marked c.requires.room (omega (arith, c.min.ensures))
