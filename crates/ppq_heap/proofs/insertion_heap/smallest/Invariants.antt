use Rattle.std.proofs.Common.{◌≡◌, take}
use Rattle.ppq_tree.specs.ppq_record.Bag.{least}
use Rattle.ppq_heap.proofs.insertion_heap.smallest.Given as goal

abbrev pub invariant-loop-place : goal.invariant-loop-place
invariant-loop-place g l = l.best ≡ least g.R.Ord.cmp (take l.place l.items)
