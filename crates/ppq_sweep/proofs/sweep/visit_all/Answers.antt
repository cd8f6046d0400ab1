use Rattle.std.proofs.Common.{◌∙◌, refl}
use Rattle.ppq_queue.specs.Shown.{AllTell}
use Rattle.ppq_sweep.specs.Queues.{HoldsEdges}
use Rattle.ppq_sweep.specs.Swept.{StopsSweep}
use Rattle.ppq_sweep.proofs.Results.{if_err}
use Rattle.ppq_sweep.proofs.Served.{moves_none, moves_more}
use Rattle.ppq_sweep.proofs.Visited.{swept_none, swept_more, swept_stopped}
use Rattle.ppq_sweep.proofs.sweep.visit_all.Goals as goal

pub nodes-init : goal.nodes-init
nodes-init g c = record {
  moves = moves_none c.args.edges.now c.args.notes.now;
  edges_quiet = refl;
  notes_quiet = refl;
  faults = refl;
  swept = λ holds tell. swept_none (g.O.Sink.told c.args.out.now) c.args.edges.now.bag c.args.notes.now.bag c.args.lines.now (c.requires.none tell) c.requires.empty;
}

pub nodes-preserved : goal.nodes-preserved
nodes-preserved g c =
    let it = c.nodes.invariant in
    let one = c.in_ok-visit.ensures in
    let told = g.O.Sink.told in
    record {
      moves = moves_more c.args.edges.now c.nodes.edges c.visit.new.edges c.args.notes.now c.nodes.notes c.visit.new.notes it.moves c.visit.ensures.moves;
      edges_quiet = one.queues.0 ∙ it.edges_quiet;
      notes_quiet = one.queues.1 ∙ it.notes_quiet;
      faults = one.sink ∙ it.faults;
      swept = λ holds tell.
          (let here = it.moves.edges_keep.tells holds.tell in
          let there = it.moves.notes_keep.tells tell in
          swept_more c.args.nodes c.nodes.node (told c.args.out.now) (told c.nodes.out) (told c.visit.new.out) c.args.edges.now.bag c.nodes.edges.bag c.nodes.notes.bag c.nodes.lines c.visit.new.lines c.requires.few holds.edges (it.swept holds tell)
          c.visit.new.edges.bag c.visit.new.notes.bag (one.comes here there) (one.line there));
    }

pub returns-in_err-visit-clause-moves : goal.returns-in_err-visit-clause-moves
returns-in_err-visit-clause-moves g c = moves_more c.args.edges.now c.nodes.edges c.visit.new.edges c.args.notes.now c.nodes.notes c.visit.new.notes c.nodes.invariant.moves c.visit.ensures.moves

pub returns-in_err-visit-clause-stops : goal.returns-in_err-visit-clause-stops
returns-in_err-visit-clause-stops g c =
    let it = c.nodes.invariant in
    let told = g.O.Sink.told in
    let nodes = c.args.nodes in
    let all = c.args.edges.now in
    let now = c.visit.new.lines in
    let fault = c.in_err-visit.field-0.0 in
    if_err c.from_residual.result fault (λ e. HoldsEdges nodes all → AllTell c.args.notes.now.slots → StopsSweep nodes (told c.args.out.now) (told c.visit.new.out) all.bag now e) c.from_residual.ensures.1
    (λ holds tell. swept_stopped nodes c.nodes.node (told c.args.out.now) (told c.nodes.out) (told c.visit.new.out) all.bag c.nodes.edges.bag c.nodes.notes.bag c.nodes.lines now c.requires.few holds.edges (it.swept holds tell)
    fault c.nodes-test.true (c.in_err-visit.ensures.stops (it.moves.notes_keep.tells tell)))
