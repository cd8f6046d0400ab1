use Rattle.std.proofs.Common.{◌≡◌, ◌∙◌, take, ap, subst, refl, arith}
use Rattle.std.specs.Prelude.{◌↔◌, IsNone}
use Rattle.ppq_heap.specs.ppq_record.Bag.{first_of}
use Rattle.ppq_heap.proofs.ppq_record.Fronts.{ascending-same_bag}
use Rattle.ppq_queue.proofs.Stores.{none_given}
use Rattle.ppq_queue.proofs.queue.Queue.top.Goals as goal

pub returns-in_err-ready : goal.returns-in_err-ready
returns-in_err-ready g c = record { answer = grind arith; none = grind arith; same = grind arith; easy = λ none ready. absurd (let odd = (c.in_err-ready.ensures.easy none ready).0 in cc); crowded = none_given c.from_residual.result c.in_err-ready.field-0.0 c.from_residual.ensures.1 c.in_err-ready.ensures.crowded; scant = none_given c.from_residual.result c.in_err-ready.field-0.0 c.from_residual.ensures.1 c.in_err-ready.ensures.scant; refused = grind arith; latched = grind arith; counted = assumption; stays = assumption }

pub least-requires-after_bounds : goal.least-requires-after_bounds
least-requires-after_bounds g c = grind arith

pub returns : goal.returns
returns g c =
    let laws = c.record_laws.ensures in
    let left = c.in_ok-ready.ensures.leaves in
    record {
      answer = λ tell. c.least.ensures.answer (left.stays.keeps.tells tell) ∙ ap (λ l. first_of (take 1 l)) (ascending-same_bag laws.order laws.same c.ready.new.self.bag c.args.self.now.bag (left.same.bag tell));
      none = subst (λ k. IsNone c.least.result ↔ (k ≡ 0)) left.same.size c.least.ensures.none;
      same = left.same;
      easy = λ none ready. (refl, (c.in_ok-ready.ensures.easy none ready).1);
      crowded = λ err. cc;
      scant = λ err. cc;
      refused = tt;
      latched = grind arith;
      counted = c.ready.ensures.counted;
      stays = left.stays;
    }
