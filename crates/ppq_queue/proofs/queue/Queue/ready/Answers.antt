use Rattle.std.proofs.Common.{◌≡◌, ◌<◌, ◌∙◌, length, ap, sym, subst, refl, arith}
use Rattle.std.specs.Prelude.{◌⊎◌}
use Rattle.ppq_heap.specs.Heaps.{items_of}
use Rattle.ppq_queue.proofs.Paying.{pays-beside}
use Rattle.ppq_queue.proofs.Accounted.{counted-free}
use Rattle.ppq_queue.proofs.Took.{empty_list}
use Rattle.ppq_queue.proofs.Moves.{ok-map, ok-map2}
use Rattle.ppq_queue.specs.Holding.{Holding}
use Rattle.ppq_queue.specs.Resting.{count_of}
use Rattle.ppq_queue.proofs.Flushed.{not_sound}
use Rattle.ppq_queue.proofs.Calls.{may_work, stopped, called-beside, untouched, ready_store}
use Rattle.ppq_queue.proofs.queue.Queue.ready.Goals as goal

pub returns-in-Some : goal.returns-in-Some
returns-in-Some g c = record { leaves = stopped c.self.invariant.0 c.self.view_is c.in-Some.is; counted = record { counts = refl; heaps = omega arith }; readied = tt; easy = λ none. not_sound c.in-Some.number (sym c.in-Some.is ∙ ap (λ q. q.failed) c.self.view_is ∙ none); crowded = λ err. cc; scant = λ err. cc }

pub make_ready-answer-requires-clause-works : goal.make_ready-answer-requires-clause-works
make_ready-answer-requires-clause-works g c κs within = may_work c.self.invariant.0 c.in_default.is

pub invariant_of-self : goal.invariant_of-self
invariant_of-self g c =
    let m = c.make_ready-answer in
    let e = m.ensures in
    let stands = c.self.invariant.0 in
    let paid = counted-free c.in_default.is m.result c.latch.ensures stands.counted (pays-beside (length (items_of c.self.inside.heaps)) e.pays) in
    ((called-beside stands c.in_default.is m.result c.self.view_is c.latch.ensures paid e.kept (ok-map m.result (λ d. d.holds) e.readied) e.refused).0, c.self.invariant.1)

pub returns : goal.returns
returns g c =
    let none = c.in_default.is in
    let counted = (c.self.invariant.0.sound none).counted in
    let m = c.make_ready-answer in
    let e = m.ensures in
    let stands = c.self.invariant.0 in
    let view = c.self.view_is in
    let paid = counted-free none m.result c.latch.ensures stands.counted (pays-beside (length (items_of c.self.inside.heaps)) e.pays) in
    let left = (called-beside stands none m.result view c.latch.ensures paid e.kept (ok-map m.result (λ d. d.holds) e.readied) e.refused).1 in
    record {
      leaves = left;
      counted = record { counts = ap (λ q. q.counts) view; heaps = omega (arith, ap (λ q. q.in_heap) view) };
      easy = λ sound ready.
          let at_hand = subst (λ (q : Holding g.row.R.Denot). (0 < q.in_extract) ⊎ (q.size ≡ q.in_heap)) (sym view) ready in
          untouched stands none m.result view c.latch.ensures (e.easy (ready_store (length (items_of c.self.inside.heaps)) (length c.self.inside.store.extract.items) (count_of c.self.inside.store.body) c.self.inside.count counted at_hand));
      crowded = λ err. (e.crowded err).level;
      scant = λ err. (e.crowded err).free;
      readied = ok-map2 m.result (λ d same. record { sound = same.sound; some = λ gone. omega (arith, gone, d.some (empty_list m.new.self.extract.items gone), counted, d.holds.count) }) e.readied left.same;
    }
