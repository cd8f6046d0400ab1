use Rattle.std.proofs.Common.{◌-◌, length, set, ap, ◌∙◌, arith}
use Rattle.std.specs.Prelude.{count_by}
use Rattle.std.proofs.lemmas.List.{set-get_or}
use Rattle.ppq_tree.specs.ppq_record.Order.{is_before}
use Rattle.ppq_heap.proofs.Heap.{heap_but_last}
use Rattle.ppq_heap.proofs.sift.rise_last.Goals as goal

pub rise-requires-clause-heap : goal.rise-requires-clause-heap
rise-requires-clause-heap g c =
    let some = c.requires.some in
    heap_but_last (is_before g.R.Ord.cmp) c.args.items.now (length c.args.items.now - 1) (omega arith) c.requires.heap

pub returns-clause-bag : goal.returns-clause-bag
returns-clause-bag g c p =
    c.rise.ensures.bag p
    ∙ ap (λ r. count_by p (set c.args.items.now (length c.args.items.now - 1) r)) c.index-items-place.is
    ∙ ap (count_by p) (set-get_or c.args.items.now (length c.args.items.now - 1) c.index-items-place.result)
