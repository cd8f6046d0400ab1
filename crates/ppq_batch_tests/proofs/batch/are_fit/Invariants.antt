use Rattle.std.proofs.Common.{◌<◌, All, take}
use Rattle.ppq_load.specs.ppq_session.declared.line.Line.{Line}
use Rattle.ppq_load.specs.ppq_session.Batches.{AreAbove}
use Rattle.ppq_batch_tests.proofs.batch.are_fit.Given as goal

abbrev pub invariant-loop-i : goal.invariant-loop-i
invariant-loop-i g l = record {
  named : All (λ (line : Line g.row.R.Denot). line.pass < 2) (take l.i l.lines);
  above : AreAbove g.R.Ord.cmp l.limit (take l.i l.lines);
}
