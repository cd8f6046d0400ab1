use Rattle.std.proofs.Common.{slice_index_or, refl, ap, ◌∙◌, arith}
use Rattle.std.proofs.lemmas.List.{length-set, get_or_read}
use Rattle.ppq_tree.specs.ppq_record.Order.{is_before}
use Rattle.ppq_tree.proofs.ppq_record.Fronts.{ranks}
use Rattle.ppq_heap.proofs.Heap.{hole_moves, heap_round_root, sinks}
use Rattle.ppq_heap.proofs.sift.sink.Goals as goal

pub loop-hole-init : goal.loop-hole-init
loop-hole-init g c =
    record {
      within = c.requires.some;
      same_length = refl;
      heap = heap_round_root (is_before g.R.Ord.cmp) c.args.items.now c.requires.heap;
      bag = λ r p. refl;
    }

pub loop-hole-smaller : goal.loop-hole-smaller
loop-hole-smaller g c =
    let long = length-set c.loop-hole.items c.loop-hole.hole c.index-items-child.result in
    let k = c.lesser_child-child.ensures in
    let i = c.loop-hole.invariant in
    omega (arith, long, k.below, i.within)

pub loop-hole-preserved : goal.loop-hole-preserved
loop-hole-preserved g c =
    let lt = is_before g.R.Ord.cmp in
    let i = c.loop-hole.invariant in
    let child = c.lesser_child-child.result in
    let k = c.lesser_child-child.ensures in
    let below = k.below in
    let long = length-set c.loop-hole.items c.loop-hole.hole c.index-items-child.result in
    record {
      within = omega (arith, long, k.within);
      same_length = long ∙ i.same_length;
      heap = sinks lt (ranks c.record_laws.ensures.order) c.loop-hole.items c.loop-hole.hole child c.index-items-child.result (omega arith) k.within k.child c.index-items-child.is i.heap
          (λ j d jz jl e. ap (λ v. lt (slice_index_or c.loop-hole.items j d) v) (get_or_read c.loop-hole.items child _ k.within c.index-items-child.is d) ∙ k.lesser j d jz jl e);
      bag = λ r p. hole_moves c.loop-hole.items c.loop-hole.hole child c.index-items-child.result i.within k.within (λ e. omega arith) c.index-items-child.is r p ∙ i.bag r p;
    }
