use Rattle.std.proofs.Common.{ap, sym, ◌∙◌, length, subst, arith}
use Rattle.ppq_spill.specs.ppq_counts.Tally.{storing}
use Rattle.ppq_queue.specs.Holding.{IsAbove}
use Rattle.ppq_queue.proofs.Accounted.{counted-flushed}
use Rattle.ppq_queue.proofs.Bounds.{heaps_within}
use Rattle.ppq_queue.proofs.Moves.{ok-map}
use Rattle.ppq_queue.proofs.Calls.{may_work, called-heaps}
use Rattle.ppq_queue.proofs.queue.Queue.flush.Goals as goal

pub flush_all-answer-requires-clause-works : goal.flush_all-answer-requires-clause-works
flush_all-answer-requires-clause-works g c κs within = may_work c.self.invariant.0 (ap (λ q. q.failed) c.self.view_is ∙ c.requires.sound)

pub flush_all-answer-requires-clause-some : goal.flush_all-answer-requires-clause-some
flush_all-answer-requires-clause-some g c κs within = let i = c.self.invariant.0.queue in omega (arith, i.shares, i.range.some_worker)

pub flush_all-answer-requires-clause-heaps : goal.flush_all-answer-requires-clause-heaps
flush_all-answer-requires-clause-heaps g c κs within =
    let i = c.self.invariant.0.queue in
    omega (arith, i.in_heap, heaps_within c.self.inside.store.sizes i.range i.budget)

pub invariant_of-self : goal.invariant_of-self
invariant_of-self g c =
    let view = c.self.view_is in
    let m = c.flush_all-answer in
    let stands = c.self.invariant.0 in
    let none = ap (λ q. q.failed) view ∙ c.requires.sound in
    let above = subst (λ q. IsAbove q.sizes q.peak q.limited) (sym view) c.requires.above in
    let paid = counted-flushed none m.result c.latch.ensures stands.counted (length c.self.inside.store.extract.items) stands.queue.in_extract c.begin_store.ensures m.ensures.leaves.pays in
    ((called-heaps stands none m.result view c.latch.ensures paid above m.ensures.leaves).0, c.self.invariant.1)

pub returns : goal.returns
returns g c =
    let view = c.self.view_is in
    let m = c.flush_all-answer in
    let e = m.ensures in
    let stands = c.self.invariant.0 in
    let none = ap (λ q. q.failed) view ∙ c.requires.sound in
    let above = subst (λ q. IsAbove q.sizes q.peak q.limited) (sym view) c.requires.above in
    let paid = counted-flushed none m.result c.latch.ensures stands.counted (length c.self.inside.store.extract.items) stands.queue.in_extract c.begin_store.ensures e.leaves.pays in
    record {
      leaves = (called-heaps stands none m.result view c.latch.ensures paid above e.leaves).1;
      counted = record {
        counts = record { counts = c.begin_store.ensures ∙ ap (λ q. storing q.counts) view; heaps = omega (arith, e.leaves.heaps.fewer, ap (λ q. q.in_heap) view) };
        left = ok-map m.result (λ d. omega (arith, d.left, ap (λ q. q.in_heap) view, ap (λ q. q.in_first) view)) e.first;
      };
      emptied = ok-map m.result (λ d. ap length d.emptied) e.first;
    }
