use Rattle.std.proofs.Common.{length}
use Rattle.ppq_session.proofs.PutIn.{PutSome}
use Rattle.ppq_session.proofs.gather.gather_all.Given as goal

abbrev pub invariant-gathering : goal.invariant-gathering
invariant-gathering g l = PutSome g.S.Slot.shown g.R.Ord.cmp g.R.Record.record_of g.R.Record.WIDTH l.fn.brought.items l.brought.items l.fn.c l.c

abbrev pub decreases-gathering : goal.decreases-gathering
decreases-gathering g l = length l.brought.items
