use Rattle.std.proofs.Common.{◌+◌, ◌≤◌, length, sym, subst, ◌∙◌, arith}
use Rattle.ppq_tree.specs.ppq_record.Order.{is_before}
use Rattle.ppq_tree.proofs.ppq_record.Order.{IsSameBag-length}
use Rattle.ppq_heap.specs.Heap.{IsMinHeap}
use Rattle.ppq_heap.proofs.Heap.{take-front, bag-front}
use Rattle.ppq_heap.proofs.sift.rise_all.Goals as goal

pub loop-place-preserved : goal.loop-place-preserved
loop-place-preserved g c =
    let i = c.loop-place.invariant in
    let old = c.loop-place.items in
    let new = c.rise_last.new.items in
    let n = c.loop-place.place + 1 in
    let long : n ≤ length old = omega (arith, c.loop-place-test.true, i.same_length) in
    let bag = bag-front old new n long c.rise_last.ensures.bag in
    record {
      same_length = IsSameBag-length _ old bag ∙ i.same_length;
      heap = subst (IsMinHeap (is_before g.R.Ord.cmp)) (sym (take-front old new n long c.rise_last.ensures.bag)) c.rise_last.ensures.heap;
      bag = λ p. bag p ∙ i.bag p;
    }
