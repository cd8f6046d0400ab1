use Rattle.std.proofs.Common.{◌∙◌, refl, ap, ap₂, sym, subst}
use Rattle.ppq_heap.specs.Heaps.{items_of}
use Rattle.ppq_queue.specs.Choice as spec
use Rattle.ppq_queue.proofs.Ready.{took_heap, took_extract, popped_fewer}
use Rattle.ppq_queue.proofs.Stores.{heaps-same}
use Rattle.ppq_queue.proofs.choice.take_first.Goals as goal

pub returns-then-goes_first : goal.returns-then-goes_first
returns-then-goes_first g c =
    let laws = c.record_laws.ensures in
    let h = items_of c.args.heaps.now in
    let h' = items_of c.pop.new.self in
    let e = c.pop.ensures in
    let first = sym (ap₂ (λ a b. spec.goes_first g.R.Ord.cmp a b) c.min.ensures.value c.front.ensures) ∙ sym c.goes_first.ensures ∙ c.if-goes_first.true in
    record {
      took = took_heap laws.order laws.same h h' c.args.extract.now.items c.pop.result e.value e.taken first;
      heaps = record { count = e.count; cap = e.cap; fewer = popped_fewer h h' c.pop.result (λ none. ap items_of (e.same none)) e.taken };
      room = refl;
    }

pub returns : goal.returns
returns g c =
    let laws = c.record_laws.ensures in
    let h = items_of c.args.heaps.now in
    let e = c.args.extract.now.items in
    let pop = c.pop-2.ensures in
    let first = sym (ap₂ (λ a b. spec.goes_first g.R.Ord.cmp a b) c.min.ensures.value c.front.ensures) ∙ sym c.goes_first.ensures ∙ c.if-goes_first.false in
    record {
      took = subst (λ l. spec.TookFirst g.R.Ord.cmp h h e l c.pop-2.result) (sym (ap (λ v. v.items) pop.rest)) (took_extract laws.order laws.same h e c.pop-2.result pop.first first);
      heaps = heaps-same;
      room = ap (λ v. v.room) pop.rest;
    }
