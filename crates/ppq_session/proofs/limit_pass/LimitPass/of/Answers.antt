use Rattle.ppq_session.proofs.LimitSessions.{limited-first}
use Rattle.ppq_session.proofs.limit_pass.LimitPass.of.Goals as goal

pub invariant_of-result : goal.invariant_of-result
invariant_of-result g c = limited-first g.S.Slot.shown g.R.Ord.cmp c.args.limit c.args.pass c.requires
