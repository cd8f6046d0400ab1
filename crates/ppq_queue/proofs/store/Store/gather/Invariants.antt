use Rattle.ppq_queue.specs.Resting.{count_of}
use Rattle.ppq_queue.proofs.Took.{Gathers}
use Rattle.ppq_queue.proofs.store.Store.gather.Given as goal

abbrev pub invariant-refilling : goal.invariant-refilling
invariant-refilling g l = Gathers g.S.Slot.shown g.R.Ord.cmp g.R.Record.record_of g.R.Record.WIDTH l.wanted.limit l.wanted.most l.fn.heaps l.heaps l.fn.self l.self l.fn.out l.out

abbrev pub decreases-refilling : goal.decreases-refilling
decreases-refilling g l = count_of l.self.body
