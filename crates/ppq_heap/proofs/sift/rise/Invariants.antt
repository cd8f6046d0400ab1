use Rattle.std.proofs.Common.{◌≡◌, ◌<◌, length, set}
use Rattle.ppq_tree.specs.ppq_record.Order.{is_before}
use Rattle.ppq_tree.specs.ppq_record.Bag.{IsSameBag}
use Rattle.ppq_heap.specs.Heap.{IsHeapRound}
use Rattle.ppq_heap.proofs.Heap.{NotAfterBelow}
use Rattle.ppq_heap.proofs.sift.rise.Given as goal

abbrev pub invariant-loop-hole : goal.invariant-loop-hole
invariant-loop-hole g l =
    record {
      within : l.hole < length l.items;
      same_length : length l.items ≡ length l.fn.items;
      heap : IsHeapRound (is_before g.R.Ord.cmp) l.items l.hole;
      below : NotAfterBelow (is_before g.R.Ord.cmp) l.items l.hole l.item;
      bag : IsSameBag (set l.items l.hole l.item) (set l.fn.items l.from l.item);
    }

abbrev pub decreases-loop-hole : goal.decreases-loop-hole
decreases-loop-hole g l = l.hole
