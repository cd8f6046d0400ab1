use Rattle.std.proofs.Common.{take, arith}
use Rattle.ppq_tree.specs.ppq_record.Order.{is_before}
use Rattle.ppq_heap.proofs.Heap.{heap_of_few}
use Rattle.ppq_heap.proofs.insertion_heap.InsertionHeap.new.Goals as goal

pub invariant_of-result : goal.invariant_of-result
invariant_of-result g c =
    let made = c.in_ok-records.ensures in
    (omega (arith, made.len), made.capacity, c.ranges.cap.fits, omega arith, heap_of_few (is_before g.R.Ord.cmp) (take 0 c.in_ok-records.records.items) (omega arith))
