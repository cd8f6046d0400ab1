use Rattle.std.proofs.Common.{length, ap, refl, arith}
use Rattle.ppq_heap.specs.Heaps.{items_of}
use Rattle.ppq_queue.proofs.Paying.{pays-beside}
use Rattle.ppq_queue.proofs.Accounted.{counted-free}
use Rattle.ppq_queue.proofs.Calls.{may_work, stopped, called-leaves}
use Rattle.ppq_queue.proofs.queue.Queue.settle.Goals as goal

pub returns-in-Some : goal.returns-in-Some
returns-in-Some g c =
    let left = stopped c.self.invariant.0 c.self.view_is c.in-Some.is in
    record { same = tt; settled = tt; crowded = λ err. cc; scant = λ err. cc; refused = left.refused; latched = left.latched; counted = record { counts = refl; heaps = omega arith }; stays = left.stays }

pub settle_some-answer-requires-clause-works : goal.settle_some-answer-requires-clause-works
settle_some-answer-requires-clause-works g c κs within = may_work c.self.invariant.0 c.in_default.is

pub invariant_of-self : goal.invariant_of-self
invariant_of-self g c =
    let m = c.settle_some-answer in
    let stands = c.self.invariant.0 in
    let levels = m.ensures.settles.levels in
    let paid = counted-free c.in_default.is m.result c.latch.ensures stands.counted (pays-beside (length (items_of c.self.inside.heaps)) levels.pays) in
    ((called-leaves stands c.in_default.is m.result c.self.view_is c.latch.ensures paid levels.leaves).0, c.self.invariant.1)

pub returns : goal.returns
returns g c =
    let m = c.settle_some-answer in
    let e = m.ensures.settles in
    let stands = c.self.invariant.0 in
    let view = c.self.view_is in
    let paid = counted-free c.in_default.is m.result c.latch.ensures stands.counted (pays-beside (length (items_of c.self.inside.heaps)) e.levels.pays) in
    let left = (called-leaves stands c.in_default.is m.result view c.latch.ensures paid e.levels.leaves).1 in
    record {
      same = left.same;
      settled = e.few;
      crowded = λ err. (e.levels.crowded err).level;
      scant = λ err. (e.levels.crowded err).free;
      refused = left.refused;
      latched = left.latched;
      counted = record { counts = ap (λ q. q.counts) view; heaps = omega (arith, ap (λ q. q.in_heap) view) };
      stays = left.stays;
    }
