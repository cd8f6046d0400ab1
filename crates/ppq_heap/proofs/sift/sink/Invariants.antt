use Rattle.std.proofs.Common.{◌≡◌, ◌<◌, ◌-◌, length, set}
use Rattle.ppq_tree.specs.ppq_record.Order.{is_before}
use Rattle.ppq_tree.specs.ppq_record.Bag.{IsSameBag}
use Rattle.ppq_heap.specs.Heap.{IsHeapRound}
use Rattle.ppq_heap.proofs.sift.sink.Given as goal

abbrev pub invariant-loop-hole : goal.invariant-loop-hole
invariant-loop-hole g l =
    record {
      within : l.hole < length l.items;
      same_length : length l.items ≡ length l.fn.items;
      heap : IsHeapRound (is_before g.R.Ord.cmp) l.items l.hole;
      bag : (r : _) → IsSameBag (set l.items l.hole r) (set l.fn.items 0 r);
    }

abbrev pub decreases-loop-hole : goal.decreases-loop-hole
decreases-loop-hole g l = length l.items - l.hole
