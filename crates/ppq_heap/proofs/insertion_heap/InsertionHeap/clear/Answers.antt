use Rattle.std.proofs.Common.{take, arith}
use Rattle.ppq_tree.specs.ppq_record.Order.{is_before}
use Rattle.ppq_heap.proofs.Heap.{heap_of_few}
use Rattle.ppq_heap.proofs.insertion_heap.InsertionHeap.clear.Goals as goal

pub invariant_of-self : goal.invariant_of-self
invariant_of-self g c =
    let i = c.self.invariant in
    let k = c.clear.ensures in
    (omega (arith, k.len), omega (arith, k.capacity, i.1), i.2, omega arith, heap_of_few (is_before g.R.Ord.cmp) (take 0 c.clear.new.self.items) (omega arith))
