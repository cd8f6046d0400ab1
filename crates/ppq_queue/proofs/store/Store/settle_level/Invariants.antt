use Rattle.std.proofs.Common.{length}
use Rattle.ppq_queue.specs.Stores.{LevelLeaves}
use Rattle.ppq_queue.proofs.Stores.{done}
use Rattle.ppq_queue.proofs.store.Store.settle_level.Given as goal

abbrev pub invariant-loop-self : goal.invariant-loop-self
invariant-loop-self g l = LevelLeaves g.S.Slot.shown g.R.Ord.cmp g.R.Record.record_of g.R.Record.WIDTH l.level l.fn.self l.self done

abbrev pub decreases-loop-self : goal.decreases-loop-self
decreases-loop-self g l = length l.self.body.runs.external.items
