use Rattle.std.proofs.Common.{◌≡◌, ◌-◌, ◌∙◌, take, drop, ap, subst, refl, arith}
use Rattle.std.specs.Prelude.{◌↔◌, IsNone, count_by}
use Rattle.ppq_extract.specs.ppq_array.Kept.{all_faults}
use Rattle.ppq_heap.specs.ppq_record.Bag.{first_of}
use Rattle.ppq_heap.proofs.ppq_record.Fronts.{ascending-same_bag}
use Rattle.ppq_queue.specs.Holding.{Holding}
use Rattle.ppq_queue.proofs.Flushed.{keeps-slots, keeps-more}
use Rattle.ppq_queue.proofs.Stores.{none_given}
use Rattle.ppq_queue.proofs.queue.Queue.pop.Goals as goal

pub returns-in_err-ready : goal.returns-in_err-ready
returns-in_err-ready g c = record { answer = grind arith; none = grind arith; taken = grind arith; easy = λ none ready. absurd (let odd = (c.in_err-ready.ensures.easy none ready).0 in cc); crowded = none_given c.from_residual.result c.in_err-ready.field-0.0 c.from_residual.ensures.1 c.in_err-ready.ensures.crowded; scant = none_given c.from_residual.result c.in_err-ready.field-0.0 c.from_residual.ensures.1 c.in_err-ready.ensures.scant; refused = grind arith; latched = grind arith; peak = assumption; counted = assumption; keeps = assumption }

pub take_least-requires-after_bounds : goal.take_least-requires-after_bounds
take_least-requires-after_bounds g c = grind arith

pub returns : goal.returns
returns g c =
    let laws = c.record_laws.ensures in
    let stays = c.ready.ensures.leaves.stays in
    let same = c.in_ok-ready.ensures.leaves.same in
    let took = c.take_least.ensures in
    let mid = c.ready.new.self in
    let now = c.take_least.new.self in
    let one_less : Holding g.row.R.Denot → Holding g.row.R.Denot = λ q. record q { bag = now.bag; size = q.size - 1; in_heap = now.in_heap; in_first = now.in_first; in_extract = now.in_extract } in
    record {
      answer = λ tell. took.least.answer (stays.keeps.tells tell) ∙ ap (λ l. first_of (take 1 l)) (ascending-same_bag laws.order laws.same mid.bag c.args.self.now.bag (same.bag tell));
      none = subst (λ k. IsNone c.take_least.result ↔ (k ≡ 0)) same.size took.least.none;
      taken = record {
        bag = λ tell p. took.rest (stays.keeps.tells tell) p ∙ ap (λ l. count_by p (drop 1 l)) (ascending-same_bag laws.order laws.same mid.bag c.args.self.now.bag (same.bag tell));
        size = ap (λ q. q.size) took.fields ∙ ap (λ k. k - 1) same.size;
        sound = ap (λ q. q.failed) took.fields ∙ same.sound;
        quiet = ap (λ q. all_faults q.slots) took.fields ∙ same.quiet;
      };
      easy = λ none ready. (refl, took.fields ∙ ap one_less (c.in_ok-ready.ensures.easy none ready).1);
      crowded = λ err. cc;
      scant = λ err. cc;
      refused = tt;
      latched = grind arith;
      peak = ap (λ q. q.peak) took.fields ∙ stays.peak;
      counted = record { counts = ap (λ q. q.counts) took.fields ∙ c.ready.ensures.counted.counts; heaps = omega (arith, took.heaps, c.ready.ensures.counted.heaps) };
      keeps = keeps-more c.args.self.now mid now stays.keeps (keeps-slots mid now (ap (λ q. q.sizes) took.fields) (ap (λ q. q.limited) took.fields) (ap (λ q. q.slots) took.fields));
    }
