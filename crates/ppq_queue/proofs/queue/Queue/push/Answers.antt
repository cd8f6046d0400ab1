use Rattle.std.proofs.Common.{◌+◌, ◌-◌, ◌<◌, ◌∙◌, ap, sym, subst, refl, arith}
use Rattle.std.specs.Prelude.{count_by, ⊤}
use Rattle.ppq_extract.specs.ppq_outside.Shown.{AllTell}
use Rattle.ppq_extract.specs.ppq_budget.Sizes.{heap_of}
use Rattle.ppq_extract.specs.ppq_array.Kept.{all_faults}
use Rattle.ppq_heap.proofs.ppq_record.Order.{count_by-cons}
use Rattle.ppq_spill.specs.ppq_counts.Tally.{accepting}
use Rattle.ppq_queue.specs.Holding.{Holding, IsRefusal, IsBackedQueue, begun_push}
use Rattle.ppq_queue.proofs.Counted.{backed-less, put-backed}
use Rattle.ppq_queue.proofs.Calls.{stopped}
use Rattle.ppq_queue.proofs.Flushed.{not_sound, refusal-raised, keeps-slots, keeps-more}
use Rattle.ppq_queue.proofs.queue.Queue.push.Goals as goal

pub returns-in-Some : goal.returns-in-Some
returns-in-Some g c =
    let left = stopped c.self.invariant.0 c.self.view_is {T = ⊤} c.in-Some.is in
    record {
      added = tt;
      easy = grind arith;
      back = assumption;
      refused = left.refused;
      latched = grind arith;
      peak = grind arith;
      counted = record {
        counts = λ none. not_sound c.in-Some.number (sym c.in-Some.is ∙ ap (λ q. q.failed) c.self.view_is ∙ none);
        backed = tt;
        unbacked = backed-less c.args.self.now c.args.self.now.in_heap (c.args.self.now.in_heap - heap_of c.args.self.now.sizes) (omega arith);
      };
      keeps = left.stays.keeps;
    }

pub make_room-requires-clause-sound : goal.make_room-requires-clause-sound
make_room-requires-clause-sound g c κs within = ap (λ q. q.failed) c.raise_peak.ensures ∙ sym (ap (λ q. q.failed) c.self.view_is) ∙ c.in_default.is

pub make_room-requires-clause-peak : goal.make_room-requires-clause-peak
make_room-requires-clause-peak g c κs within = grind arith

pub put-requires-clause-may : goal.put-requires-clause-may
put-requires-clause-may g c κs within =
    let raised = c.raise_peak.ensures in
    let e = c.in-Ok.ensures in
    let stays = c.make_room.ensures.leaves.stays in
    record { sound = e.leaves.same.sound; room = e.room; peak = omega (arith, stays.size, stays.peak, ap (λ q. q.size) raised, ap (λ q. q.peak) raised) }

pub returns-in-Err : goal.returns-in-Err
returns-in-Err g c =
    let raised = c.raise_peak.ensures in
    let now = c.make_room.new.self in
    let room = c.in-Err.ensures.counted in
    record {
      added = tt;
      easy = grind arith;
      back = assumption;
      refused = refusal-raised c.args.self.now now _ c.in-Err.fault (subst (λ q. IsRefusal q now c.in-Err.fault) raised c.in-Err.ensures.leaves.refused);
      latched = grind arith;
      peak = grind arith;
      counted = record { counts = λ none. room.counts ∙ ap begun_push raised; backed = tt; unbacked = λ is. room.unbacked (subst (λ (q : Holding g.row.R.Denot). IsBackedQueue q) (sym raised) is) };
      keeps = keeps-more c.args.self.now c.raise_peak.new.self now (keeps-slots c.args.self.now c.raise_peak.new.self (ap (λ q. q.sizes) raised) (ap (λ q. q.limited) raised) (ap (λ q. q.slots) raised)) c.make_room.ensures.leaves.stays.keeps;
    }

pub returns-in-Ok : goal.returns-in-Ok
returns-in-Ok g c =
    let raised = c.raise_peak.ensures in
    let same = c.in-Ok.ensures.leaves.same in
    let made = c.in-Ok.ensures.counted in
    let rest = c.put.ensures.rest in
    let old = c.args.self.now in
    let up = c.raise_peak.new.self in
    let roomed = c.make_room.new.self in
    let now = c.put.new.self in
    let first = keeps-slots old up (ap (λ q. q.sizes) raised) (ap (λ q. q.limited) raised) (ap (λ q. q.slots) raised) in
    let last = keeps-slots roomed now (ap (λ q. q.sizes) rest) (ap (λ q. q.limited) rest) (ap (λ q. q.slots) rest) in
    let more : Holding g.row.R.Denot → Holding g.row.R.Denot = λ q. record q { bag = now.bag; size = q.size + 1; in_heap = q.in_heap + 1; in_first = q.in_first + 1; counts = accepting 1 q.counts } in
    record {
      added = record {
        bag = λ tell p.
            let told = subst (λ q. AllTell q.slots) (sym raised) tell in
            omega (arith, c.put.ensures.added p, count_by-cons p c.args.r roomed.bag, count_by-cons p c.args.r old.bag, same.bag told p, ap (λ q. count_by p q.bag) raised);
        size = ap (λ q. q.size) rest ∙ ap (λ k. k + 1) (same.size ∙ ap (λ q. q.size) raised);
        sound = ap (λ q. q.failed) rest ∙ same.sound;
        quiet = ap (λ q. all_faults q.slots) rest ∙ same.quiet ∙ ap (λ q. all_faults q.slots) raised;
      };
      easy = λ none room. (refl, rest ∙ ap more ((c.make_room.ensures.easy (subst (λ q. q.in_first < heap_of q.sizes) (sym raised) room)).1 ∙ raised));
      back = tt;
      refused = tt;
      latched = grind arith;
      peak = grind arith;
      counted = record {
        counts = λ none. ap (λ q. q.counts) rest ∙ ap (accepting 1) (made.counts ∙ ap begun_push raised);
        backed = λ is. put-backed roomed now (ap (λ q. q.sizes) rest) (ap (λ q. q.counts) rest) (ap (λ q. q.in_heap) rest) (made.backed (subst (λ (q : Holding g.row.R.Denot). IsBackedQueue q) (sym raised) is));
        unbacked = tt;
      };
      keeps = keeps-more old up now first (keeps-more up roomed now c.make_room.ensures.leaves.stays.keeps last);
    }
