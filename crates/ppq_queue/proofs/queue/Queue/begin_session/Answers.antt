use Rattle.std.proofs.Common.{ap, sym, ◌∙◌, length, arith}
use Rattle.std.specs.Prelude.{⊤}
use Rattle.ppq_heap.specs.Heaps.{items_of}
use Rattle.ppq_spill.specs.ppq_counts.Tally.{beginning}
use Rattle.ppq_queue.specs.Handed.{viewed}
use Rattle.ppq_queue.specs.Holding.{session_begun}
use Rattle.ppq_queue.proofs.Accounted.{counted-begun}
use Rattle.ppq_queue.proofs.Flushed.{keeps-slots, not_sound}
use Rattle.ppq_queue.proofs.Moves.{ok-map}
use Rattle.ppq_queue.proofs.Paying.{pays-beside}
use Rattle.ppq_queue.proofs.Calls.{may_work, stopped, stands-stopped, called-leaves}
use Rattle.ppq_queue.proofs.queue.Queue.begin_session.Goals as goal

pub invariant_of-self : goal.invariant_of-self
invariant_of-self g c = (stands-stopped c.self.invariant.0 c.in-Some.is c.begin_session.ensures, c.self.invariant.1)

pub returns-in-Some : goal.returns-in-Some
returns-in-Some g c =
    let s = c.self.inside in
    let view = c.self.view_is in
    let begun = c.begin_session.ensures in
    let left = stopped c.self.invariant.0 view {T = ⊤} c.in-Some.is in
    let now = viewed g.S.Slot.shown g.R.Record.record_of g.R.Record.WIDTH s.store s.heaps s.count s.peak s.failed s.limited in
    record {
      same = tt;
      emptied = tt;
      heaps = ap (λ q. q.in_heap) view;
      first = ap (λ q. q.in_first) view;
      settled = tt;
      merged = λ t. tt;
      refused = record { fault = c.self.invariant.0.queue.fault c.in-Some.number c.in-Some.is; kept = c.in-Some.is; size = ap (λ q. q.size) view };
      latched = λ k e. ((left.latched k e).0, ap now begun ∙ ap session_begun view);
      counted = record { counts = begun ∙ ap (λ q. beginning q.counts) view; heaps = omega (arith, ap (λ q. q.in_heap) view) };
      stays = record { keeps = keeps-slots c.args.self.now (now c.begin_session.new.self) (ap (λ q. q.sizes) view) (ap (λ q. q.limited) view) (ap (λ q. q.slots) view); size = ap (λ q. q.size) view; peak = ap (λ q. q.peak) view };
    }

pub store_for_session-answer-requires-clause-works : goal.store_for_session-answer-requires-clause-works
store_for_session-answer-requires-clause-works g c κs within = may_work c.self.invariant.0 c.in_default.is

pub invariant_of-self-2 : goal.invariant_of-self-2
invariant_of-self-2 g c =
    let m = c.store_for_session-answer in
    let s = c.self.inside in
    let stands = c.self.invariant.0 in
    let rest = m.ensures.rest in
    let paid = counted-begun c.in_default.is m.result c.latch.ensures stands.counted (length s.store.extract.items) 2 stands.queue.in_extract (omega arith) c.begin_session.ensures (pays-beside (length (items_of s.heaps)) rest.pays) in
    ((called-leaves stands c.in_default.is m.result c.self.view_is c.latch.ensures paid rest.leaves).0, c.self.invariant.1)

pub returns : goal.returns
returns g c =
    let view = c.self.view_is in
    let m = c.store_for_session-answer in
    let e = m.ensures in
    let s = c.self.inside in
    let stands = c.self.invariant.0 in
    let none = c.in_default.is in
    let paid = counted-begun none m.result c.latch.ensures stands.counted (length s.store.extract.items) 2 stands.queue.in_extract (omega arith) c.begin_session.ensures (pays-beside (length (items_of s.heaps)) e.rest.pays) in
    let left = (called-leaves stands none m.result view c.latch.ensures paid e.rest.leaves).1 in
    record {
      same = left.same;
      emptied = ok-map m.result (λ d. ap length d.no_extract) e.rest.emptied;
      heaps = ap (λ q. q.in_heap) view;
      first = ap (λ q. q.in_first) view;
      settled = ok-map m.result (λ d. d.few) e.rest.emptied;
      merged = e.merged;
      refused = left.refused;
      latched = λ number is. not_sound number (sym is ∙ sym (ap (λ q. q.failed) view) ∙ none);
      counted = record { counts = c.begin_session.ensures ∙ ap (λ q. beginning q.counts) view; heaps = omega (arith, ap (λ q. q.in_heap) view) };
      stays = left.stays;
    }
