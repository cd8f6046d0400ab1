use Rattle.std.proofs.Common.{◌≡◌, None}
use Rattle.ppq_queue.specs.Kept.{AreQuiet}
use Rattle.ppq_queue.specs.Shown.{AllTell}
use Rattle.ppq_sweep.specs.Notes.{TellsSome}
use Rattle.ppq_sweep.specs.Queues.{MovesOn}
use Rattle.ppq_sweep.proofs.node.tell.Given as goal

-- each edge so far has sent its note
abbrev pub invariant-telling : goal.invariant-telling
invariant-telling g l = record {
  moves : MovesOn l.fn.edges l.edges l.fn.notes l.notes;
  sound : l.notes.failed ≡ None;
  edges_quiet : AreQuiet l.fn.edges.slots l.edges.slots;
  notes_quiet : AreQuiet l.fn.notes.slots l.notes.slots;
  told : AllTell l.fn.edges.slots → AllTell l.fn.notes.slots → TellsSome l.node l.level l.fn.edges.bag l.edges.bag l.fn.notes.bag l.notes.bag;
}

abbrev pub decreases-telling : goal.decreases-telling
decreases-telling g l = l.edges.size
