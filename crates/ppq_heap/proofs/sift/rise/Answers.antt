use Rattle.std.proofs.Common.{◌≡◌, ◌-◌, ◌/◌, ◌<◌, true, refl, sym, ap, ◌∙◌, arith}
use Rattle.std.proofs.lemmas.List.{length-set, get_or_read}
use Rattle.ppq_tree.specs.ppq_record.Order.{is_before}
use Rattle.ppq_tree.proofs.ppq_record.Fronts.{ranks}
use Rattle.ppq_heap.proofs.Heap.{hole_moves, rises, filled}
use Rattle.ppq_heap.proofs.sift.rise.Goals as goal
use Rattle.ppq_heap.proofs.sift.rise.Goals.{else-loop-hole-test, then-loop-hole-test+then-not-is_less}

pub loop-hole-preserved : goal.loop-hole-preserved
loop-hole-preserved g c =
    let lt = is_before g.R.Ord.cmp in
    let i = c.loop-hole.invariant in
    let within = i.within in
    let parent = (c.loop-hole.hole - 1) / 2 in
    let above = c.index-items-parent.result in
    let long = length-set c.loop-hole.items c.loop-hole.hole above in
    let z : 0 < c.loop-hole.hole = omega arith in
    let less : lt c.args.item above ≡ true = sym c.is_less.ensures ∙ c.if-not-is_less.false in
    let step = rises lt (ranks c.record_laws.ensures.order) c.loop-hole.items c.loop-hole.hole parent above c.args.item z within refl c.index-items-parent.is i.heap i.below less in
    record {
      within = omega (arith, long);
      same_length = long ∙ i.same_length;
      heap = step.0;
      below = step.1;
      bag = λ p. hole_moves c.loop-hole.items c.loop-hole.hole parent above within (omega arith) (λ e. omega arith) c.index-items-parent.is c.args.item p ∙ i.bag p;
    }

pub returns-clause-heap : goal.returns-clause-heap
returns-clause-heap g c =
    let lt = is_before g.R.Ord.cmp in
    let i = c.loop-hole.invariant in
    filled lt (ranks c.record_laws.ensures.order) c.loop-hole.items c.loop-hole.hole c.args.item i.within i.heap i.below
    (elim c.loop-hole-test.branch [
      | else-loop-hole-test w ↦ (λ z d. let top = w.loop-hole-test.false in absurd (omega arith))
      | then-loop-hole-test+then-not-is_less w ↦ (λ z d. let within = i.within in
          ap (lt c.args.item) (sym (get_or_read c.loop-hole.items ((c.loop-hole.hole - 1) / 2) w.index-items-parent.result (omega arith) w.index-items-parent.is d)) ∙ sym w.is_less.ensures ∙ w.if-not-is_less.true)
    ])
