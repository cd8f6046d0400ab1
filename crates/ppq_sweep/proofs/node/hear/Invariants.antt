use Rattle.std.proofs.Common.{◌<◌, ◌^◌}
use Rattle.ppq_queue.specs.Kept.{AreQuiet}
use Rattle.ppq_queue.specs.Shown.{AllTell}
use Rattle.ppq_sweep.specs.Notes.{HearsSome}
use Rattle.ppq_sweep.specs.Queues.{TakesOnly}
use Rattle.ppq_sweep.proofs.node.hear.Given as goal

-- the notes so far made this level
abbrev pub invariant-hearing : goal.invariant-hearing
invariant-hearing g l = record {
  takes : TakesOnly l.fn.notes l.notes;
  quiet : AreQuiet l.fn.notes.slots l.notes.slots;
  heard : AllTell l.fn.notes.slots → HearsSome l.node l.fn.notes.bag l.notes.bag l.level;
  fits : l.level < 2 ^ 64;
}

abbrev pub decreases-hearing : goal.decreases-hearing
decreases-hearing g l = l.notes.size
