use Rattle.std.proofs.Common.{◌<◌, All, take}
use Rattle.ppq_session.specs.declared.line.Line.{Line}
use Rattle.ppq_session.specs.Batches.{AreAbove}
use Rattle.ppq_session_tests.proofs.kinds.are_fit.Given as goal

abbrev pub invariant-loop-i : goal.invariant-loop-i
invariant-loop-i g l = record {
  named : All (λ (line : Line g.row.R.Denot). line.pass < 2) (take l.i l.lines);
  above : AreAbove g.R.Ord.cmp l.limit (take l.i l.lines);
}
