use Rattle.std.proofs.Common.{◌-◌, ◌≤◌, length}
use Rattle.ppq_queue.specs.Bulk.{Moves}
use Rattle.ppq_queue.proofs.bulk.merge.Given as goal

abbrev pub invariant-moving : goal.invariant-moving
invariant-moving g l = record { moves : Moves g.R.Ord.cmp l.more l.limit l.fn.heaps l.heaps l.fn.extract l.extract l.fn.out l.out; few : length l.out.items ≤ l.most }

abbrev pub decreases-moving : goal.decreases-moving
decreases-moving g l = l.most - length l.out.items
