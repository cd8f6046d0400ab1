use Rattle.std.proofs.Common.{ap, ◌∙◌}
use Rattle.ppq_tree.specs.ppq_record.Order.{is_before}
use Rattle.ppq_tree.specs.ppq_record.Bag.{least}
use Rattle.ppq_heap.proofs.Heap.{none_is_least}
use Rattle.ppq_heap.proofs.insertion_heap.InsertionHeap.min.Goals as goal

pub returns-clause-none : goal.returns-clause-none
returns-clause-none g c =
    none_is_least (is_before g.R.Ord.cmp) c.args.self.now.items c.smallest.result
    (c.smallest.ensures ∙ ap (least g.R.Ord.cmp) (c.as_slice.ensures.value ∙ ap (λ h. h.items) c.self.view_is))
