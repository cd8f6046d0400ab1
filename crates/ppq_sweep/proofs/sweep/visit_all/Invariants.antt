use Rattle.std.proofs.Common.{◌≡◌}
use Rattle.ppq_queue.specs.Kept.{AreQuiet}
use Rattle.ppq_queue.specs.Shown.{AllTell}
use Rattle.ppq_sweep.specs.Queues.{HoldsEdges, MovesOn}
use Rattle.ppq_sweep.specs.Swept.{HasSwept}
use Rattle.ppq_sweep.proofs.sweep.visit_all.Given as goal

-- the nodes so far came up
abbrev pub invariant-nodes : goal.invariant-nodes
invariant-nodes g l = record {
  moves : MovesOn l.fn.edges l.edges l.fn.notes l.notes;
  edges_quiet : AreQuiet l.fn.edges.slots l.edges.slots;
  notes_quiet : AreQuiet l.fn.notes.slots l.notes.slots;
  faults : g.O.Sink.faults l.out ≡ g.O.Sink.faults l.fn.out;
  swept : HoldsEdges l.nodes l.fn.edges → AllTell l.fn.notes.slots → HasSwept l.node (g.O.Sink.told l.fn.out) (g.O.Sink.told l.out) l.fn.edges.bag l.edges.bag l.notes.bag l.lines;
}
