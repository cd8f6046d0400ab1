use Rattle.std.proofs.Common.{◌-◌, length}
use Rattle.ppq_queue.specs.Bulk.{CopiesFirst}
use Rattle.ppq_queue.proofs.bulk.copy_first.Given as goal

abbrev pub invariant-copying : goal.invariant-copying
invariant-copying g l = CopiesFirst g.R.Ord.cmp l.most l.count l.latest l.limit l.rest l.fn.out l.out

abbrev pub decreases-copying : goal.decreases-copying
decreases-copying g l = length l.rest - l.count
