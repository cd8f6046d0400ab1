use Rattle.std.proofs.Common.{◌+◌, ◌≡◌, take, [], ◌∷◌, ◌++◌, ap, sym, ◌∙◌, arith}
use Rattle.std.specs.Prelude.{count_by}
use Rattle.std.proofs.lemmas.List.{take_more}
use Rattle.ppq_tree.specs.ppq_record.Order.{is_before}
use Rattle.ppq_tree.proofs.ppq_record.Order.{IsSameBag-append_comm}
use Rattle.ppq_tree.proofs.ppq_record.Fronts.{ranks, no_tie}
use Rattle.ppq_heap.proofs.Heap.{first_of_heap}
use Rattle.ppq_heap.proofs.insertion_heap.smallest.Goals as goal

pub loop-place-init : goal.loop-place-init
loop-place-init g c =
    let laws = c.record_laws.ensures in
    c.copied-best.ensures ∙ (c.first.ensures.value
    ∙ first_of_heap (is_before g.R.Ord.cmp) (ranks laws.order) (no_tie laws.order laws.same) (take c.args.heaped c.args.items.now) c.requires.heap)

pub loop-place-preserved : goal.loop-place-preserved
loop-place-preserved g c =
    let items = c.args.items.now in
    let place = c.loop-place.place in
    let item = c.index-items-place.result in
    let there : ◌≡◌ (take (place + 1) items) (take place items ++ item ∷ []) =
    take_more items place item (omega arith) ∙ ap (λ r. take place items ++ r ∷ []) (sym c.index-items-place.is) in
    c.lesser-best.ensures (take place items) (take (place + 1) items) c.loop-place.invariant (λ p. ap (count_by p) there ∙ IsSameBag-append_comm (take place items) (item ∷ []) p)
