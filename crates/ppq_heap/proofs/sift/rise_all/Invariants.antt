use Rattle.std.proofs.Common.{◌≡◌, length, take}
use Rattle.ppq_tree.specs.ppq_record.Order.{is_before}
use Rattle.ppq_tree.specs.ppq_record.Bag.{IsSameBag}
use Rattle.ppq_heap.specs.Heap.{IsMinHeap}
use Rattle.ppq_heap.proofs.sift.rise_all.Given as goal

abbrev pub invariant-loop-place : goal.invariant-loop-place
invariant-loop-place g l = record {
  same_length : length l.items ≡ length l.fn.items;
  heap : IsMinHeap (is_before g.R.Ord.cmp) (take l.place l.items);
  bag : IsSameBag l.items l.fn.items;
}
