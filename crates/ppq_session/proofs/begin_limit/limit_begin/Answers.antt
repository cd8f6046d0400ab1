use Rattle.std.proofs.Common.{◌≡◌, ℕ, ◌∙◌, ap₂, sym, subst, arith}
use Rattle.std.specs.Prelude.{Err}
use Rattle.ppq_queue.specs.Holding.{MetFault, IsRefusal}
use Rattle.ppq_session.specs.Sessions.{IsUnbegun}
use Rattle.ppq_session.specs.Readied.{MemoryLeavesLimitReady}
use Rattle.ppq_session.specs.LimitSessions.{begun_in}
use Rattle.ppq_session.specs.declared.fault.BeginFault.TheVariants.{Device}
use Rattle.ppq_session.proofs.Begun.{keeps-begun, unbegun-memory, ready-limit, handed_nothing, handed_count, limit_began}
use Rattle.ppq_session.proofs.begin_limit.limit_begin.Goals as goal

pub limit_passes-passes-requires-after_bounds : goal.limit_passes-passes-requires-after_bounds
limit_passes-passes-requires-after_bounds g c κs bounds =
    let b = c.in-Ok-hand_out in
    let handed = b.ensures.handed in
    let count = handed_count g.S.Slot.shown c.args.q c.store_heaps.new.self b.bulk b.shared b.passes.items handed c.in-Ok.ensures.heaps in
    record {
      nothing = handed_nothing g.S.Slot.shown c.args.q c.store_heaps.new.self b.bulk b.shared b.passes.items handed c.in-Ok.ensures.heaps;
      fresh = handed.fresh;
      empty = c.in-Ok-with_capacity.ensures.items;
      room = omega (arith, count, c.known.ensures.range.workers, c.in-Ok-with_capacity.ensures.capacity);
    }

pub front_of-requires-after_bounds : goal.front_of-requires-after_bounds
front_of-requires-after_bounds g c κs bounds =
    let handed = c.in-Ok-hand_out.ensures.handed in
    record { none = handed.begun ∙ c.in-Ok.ensures.heaps; runs = omega (arith, handed.runs, c.in-Ok.ensures.settled); limited = handed.limited ∙ c.store_heaps.ensures.stays.keeps.limited }

pub returns-in-Ok-hand_out-clause-begun : goal.returns-in-Ok-hand_out-clause-begun
returns-in-Ok-hand_out-clause-begun g c =
    let b = c.in-Ok-hand_out in
    limit_began g.S.Slot.shown c.args.q c.store_heaps.new.self b.bulk b.shared b.passes.items b.ensures.handed c.in-Ok.ensures.heaps c.in-Ok.ensures.same c.store_heaps.ensures.stays c.store_heaps.ensures.counted.counts c.args.l c.front_of.result c.front_of.ensures c.limit_passes-passes.result.items c.limit_passes-passes.ensures

pub returns-in-Ok-hand_out-clause-latched : goal.returns-in-Ok-hand_out-clause-latched
returns-in-Ok-hand_out-clause-latched g c = λ number latched. let said = (c.store_heaps.ensures.latched number latched).0 in cc

pub returns-in_default : goal.returns-in_default
returns-in_default g c =
    let e = c.store_heaps.ensures in
    record {
      begun = tt;
      refused = unbegun-memory c.args.q (begun_in c.args.q) c.store_heaps.new.self c.in-Ok.ensures.same (keeps-begun c.args.q c.store_heaps.new.self e.stays.keeps) e.stays.peak e.counted;
      memory = ready-limit c.args.q c.store_heaps.new.self c.in-Ok.ensures.same c.in-Ok.ensures.emptied c.in-Ok.ensures.settled c.in-Ok.ensures.heaps;
      latched = λ number latched. let said = (e.latched number latched).0 in cc;
    }

pub returns-in-Err : goal.returns-in-Err
returns-in-Err g c =
    let e = c.store_heaps.ensures in
    record {
      begun = tt;
      refused = subst (λ e. IsUnbegun c.args.q (begun_in c.args.q) e.0 e.1) (sym c.in-Err.ensures.back) (unbegun-memory c.args.q (begun_in c.args.q) c.store_heaps.new.self c.in-Ok.ensures.same (keeps-begun c.args.q c.store_heaps.new.self e.stays.keeps) e.stays.peak e.counted);
      memory = subst (λ e. MemoryLeavesLimitReady c.args.q e.0 e.1) (sym c.in-Err.ensures.back) (ready-limit c.args.q c.store_heaps.new.self c.in-Ok.ensures.same c.in-Ok.ensures.emptied c.in-Ok.ensures.settled c.in-Ok.ensures.heaps);
      latched = λ number latched. let said = (e.latched number latched).0 in cc;
    }

pub returns-in-Err-NoFreeBlock : goal.returns-in-Err-NoFreeBlock
returns-in-Err-NoFreeBlock g c =
    let e = c.store_heaps.ensures in
    let arm = c.in-Err-NoFreeBlock in
    record {
      begun = tt;
      refused = record { why = subst (IsRefusal c.args.q c.store_heaps.new.self) arm.field-0-is arm.ensures.refused; kept = keeps-begun c.args.q c.store_heaps.new.self e.stays.keeps; peak = e.stays.peak; counted = e.counted };
      memory = tt;
      latched = λ number latched. let said = (e.latched number latched).0 in cc;
    }

pub returns-in-Err-Device : goal.returns-in-Err-Device
returns-in-Err-Device g c =
    let new = c.store_heaps.new.self in
    let e = c.store_heaps.ensures in
    let arm = c.in-Err-Device in
    let stopped : MetFault arm.number c.args.q new = subst (IsRefusal c.args.q new) arm.field-0-is arm.ensures.refused in
    record {
      begun = tt;
      refused = record { why = subst (λ (n : ℕ). MetFault n c.args.q new) (sym arm.number-is) stopped; kept = keeps-begun c.args.q c.store_heaps.new.self e.stays.keeps; peak = e.stays.peak; counted = e.counted };
      memory = tt;
      latched = λ number latched.
          let both = e.latched number latched in
          let said = both.0 in
          let same : arm.number ≡ number = cc in
          ap₂ (λ q (n : ℕ). Err (q, Device n)) both.1 (arm.number-is ∙ same);
    }
