use Rattle.std.proofs.Common.{take}
use Rattle.ppq_session.specs.Dealing.{IsGoing, records_for}
use Rattle.ppq_session.specs.SessionPass.{Takes}
use Rattle.ppq_session.proofs.lines.push_named.Given as goal

abbrev pub invariant-loop-i : goal.invariant-loop-i
invariant-loop-i g l = record {
  going : IsGoing l.pass;
  takes : Takes g.S.Slot.shown g.R.Ord.cmp (records_for l.number (take l.i l.lines)) l.fn.pass l.pass;
}
