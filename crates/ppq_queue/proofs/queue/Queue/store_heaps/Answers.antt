use Rattle.std.proofs.Common.{◌+◌, true, refl, ap, sym, ◌∙◌, length, arith}
use Rattle.std.specs.Prelude.{⊤}
use Rattle.ppq_spill.specs.ppq_counts.Tally.{beginning}
use Rattle.ppq_queue.specs.Handed.{viewed}
use Rattle.ppq_queue.specs.Holding.{Holding, limit_begun}
use Rattle.ppq_queue.proofs.Accounted.{counted-begun}
use Rattle.ppq_queue.proofs.Bounds.{heaps_within}
use Rattle.ppq_queue.proofs.Flushed.{keeps-slots, not_sound, refusal-limited, same-limited}
use Rattle.ppq_queue.proofs.Moves.{ok-map}
use Rattle.ppq_queue.proofs.Stores.{err-map}
use Rattle.ppq_queue.proofs.Calls.{may_work, stopped, stands-stopped, limit_known, stands-limited, called-heaps}
use Rattle.ppq_queue.proofs.queue.Queue.store_heaps.Goals as goal

pub invariant_of-self : goal.invariant_of-self
invariant_of-self g c = (stands-stopped c.self.invariant.0 c.in-Some.is c.begin_session.ensures, c.self.invariant.1)

pub returns-in-Some : goal.returns-in-Some
returns-in-Some g c =
    let s = c.self.inside in
    let view = c.self.view_is in
    let begun = c.begin_session.ensures in
    let old = c.args.self.now in
    let left = stopped c.self.invariant.0 view {T = ⊤} c.in-Some.is in
    let now = viewed g.S.Slot.shown g.R.Record.record_of g.R.Record.WIDTH s.store s.heaps s.count s.peak s.failed true in
    record {
      same = tt;
      emptied = tt;
      heaps = tt;
      settled = tt;
      refused = record { fault = c.self.invariant.0.queue.fault c.in-Some.number c.in-Some.is; kept = c.in-Some.is; size = ap (λ q. q.size) view };
      latched = λ k e. ((left.latched k e).0, ap now begun ∙ ap limit_begun view);
      counted = record { counts = begun ∙ ap (λ q. beginning q.counts) view; heaps = omega (arith, ap (λ q. q.in_heap) view) };
      stays = record { keeps = keeps-slots (record old { limited = true }) (now c.begin_session.new.self) (ap (λ q. q.sizes) view) refl (ap (λ q. q.slots) view); size = ap (λ q. q.size) view; peak = ap (λ q. q.peak) view };
    }

pub store_all-answer-requires-clause-works : goal.store_all-answer-requires-clause-works
store_all-answer-requires-clause-works g c κs within = may_work c.self.invariant.0 c.in_default.is

pub store_all-answer-requires-clause-heaps : goal.store_all-answer-requires-clause-heaps
store_all-answer-requires-clause-heaps g c κs within =
    let i = c.self.invariant.0.queue in
    omega (arith, i.in_heap, heaps_within c.self.inside.store.sizes i.range i.budget)

pub invariant_of-self-2 : goal.invariant_of-self-2
invariant_of-self-2 g c =
    let m = c.store_all-answer in
    let s = c.self.inside in
    let stands = c.self.invariant.0 in
    let leaves = m.ensures.leaves in
    let paid = counted-begun c.in_default.is m.result c.latch.ensures stands.counted (length s.store.extract.items) (1 + length s.heaps.heaps) stands.queue.in_extract (omega (arith, stands.queue.shares)) c.begin_session.ensures leaves.pays in
    let noted : Holding g.row.R.Denot → Holding g.row.R.Denot = λ q. record q { limited = true } in
    ((called-heaps (stands-limited stands) c.in_default.is m.result (ap noted c.self.view_is) c.latch.ensures paid limit_known leaves).0, c.self.invariant.1)

pub returns : goal.returns
returns g c =
    let view = c.self.view_is in
    let m = c.store_all-answer in
    let e = m.ensures in
    let s = c.self.inside in
    let stands = c.self.invariant.0 in
    let none = c.in_default.is in
    let old = c.args.self.now in
    let paid = counted-begun none m.result c.latch.ensures stands.counted (length s.store.extract.items) (1 + length s.heaps.heaps) stands.queue.in_extract (omega (arith, stands.queue.shares)) c.begin_session.ensures e.leaves.pays in
    let noted : Holding g.row.R.Denot → Holding g.row.R.Denot = λ q. record q { limited = true } in
    let left = (called-heaps (stands-limited stands) none m.result (ap noted view) c.latch.ensures paid limit_known e.leaves).1 in
    record {
      same = ok-map m.result (same-limited old _) left.same;
      emptied = ok-map m.result (λ d. ap length d.no_extract) e.leaves.emptied;
      heaps = ok-map m.result (λ gone. ap length gone) e.none;
      settled = ok-map m.result (λ d. d.few) e.leaves.emptied;
      refused = err-map m.result (refusal-limited old _) left.refused;
      latched = λ number is. not_sound number (sym is ∙ sym (ap (λ q. q.failed) view) ∙ none);
      counted = record { counts = c.begin_session.ensures ∙ ap (λ q. beginning q.counts) view; heaps = omega (arith, e.leaves.heaps.fewer, ap (λ q. q.in_heap) view) };
      stays = left.stays;
    }
