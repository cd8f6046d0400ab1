use Rattle.std.proofs.Common.{◌≡◌, ◌∙◌, ap}
use Rattle.std.specs.Prelude.{Err}
use Rattle.ppq_pass.specs.ppq_array.declared.store_fault.StoreFault.{StoreFault as QueueFault}
use Rattle.ppq_pass.specs.ppq_array.declared.store_fault.StoreFault.TheVariants.{NoFreeBlock}
use Rattle.ppq_session.proofs.Together.{can_close, may_gather, may_rejoin, ended_whole, ended_stopped, unlatched_ok, unlatched_err, latched_err, fault_in}
use Rattle.ppq_session.proofs.end.end_joined.Goals as goal

pub close-closed-requires-after_bounds : goal.close-closed-requires-after_bounds
close-closed-requires-after_bounds g c = λ κs bounds.
    let j = c.requires.2 in
    can_close g.S.Slot.shown g.R.Ord.cmp g.R.Record.record_of g.R.Record.WIDTH c.args.shared c.requires.0 c.args.popped c.args.failed c.requires.1 j.can c.args.parts j.came

pub gather_all-requires-after_bounds : goal.gather_all-requires-after_bounds
gather_all-requires-after_bounds g c = λ κs bounds.
    let j = c.requires.2 in
    let closed = c.close-closed in
    may_gather g.S.Slot.shown g.R.Ord.cmp g.R.Record.record_of g.R.Record.WIDTH c.args.shared c.requires.0 c.args.popped c.args.failed c.requires.1 j.can c.args.parts j.came closed.result.0 closed.ensures.closed closed.result.1.items (ap (λ v. v.items) closed.ensures.brought)

pub rejoin-queue-requires-after_bounds : goal.rejoin-queue-requires-after_bounds
rejoin-queue-requires-after_bounds g c = λ κs bounds.
    let j = c.requires.2 in
    let closed = c.close-closed in
    let named = fault_in c.first_fault-first.result c.as_slice.result.now c.args.parts.brought.items closed.result.1.items c.args.failed c.first_fault-first.ensures c.as_slice.ensures.value (ap (λ v. v.items) closed.ensures.brought) in
    may_rejoin g.S.Slot.shown g.R.Ord.cmp g.R.Record.record_of g.R.Record.WIDTH c.args.shared c.requires.0 c.args.popped c.args.failed c.requires.1 j.can c.args.parts j.came closed.result.0 closed.ensures.closed closed.result.1.items (ap (λ v. v.items) closed.ensures.brought) c.gather_all.new.c c.gather_all.ensures c.first_fault-first.result named

pub returns-in-Ok : goal.returns-in-Ok
returns-in-Ok g c = λ q ps j.
    let closed = c.close-closed in
    let named = fault_in c.first_fault-first.result c.as_slice.result.now c.args.parts.brought.items closed.result.1.items c.args.failed c.first_fault-first.ensures c.as_slice.ensures.value (ap (λ v. v.items) closed.ensures.brought) in
    let queue = c.rejoin-queue.result in
    let t = c.settle.ensures in
    let fine = unlatched_ok queue.failed c.settle.result (λ number h. (t.latched number h).0) _ c.in-Ok.is in
    ended_whole g.S.Slot.shown g.R.Ord.cmp g.R.Record.record_of g.R.Record.WIDTH c.args.shared q c.args.popped c.args.failed ps j.can c.args.parts j.came closed.result.0 closed.ensures.closed closed.result.1.items (ap (λ v. v.items) closed.ensures.brought) c.gather_all.new.c c.gather_all.ensures c.first_fault-first.result named queue c.settle.new.self c.rejoin-queue.ensures t.stays t.counted fine c.in-Ok.ensures.same c.in-Ok.ensures.settled

pub returns-in-Err : goal.returns-in-Err
returns-in-Err g c = λ q ps j.
    let closed = c.close-closed in
    let named = fault_in c.first_fault-first.result c.as_slice.result.now c.args.parts.brought.items closed.result.1.items c.args.failed c.first_fault-first.ensures c.as_slice.ensures.value (ap (λ v. v.items) closed.ensures.brought) in
    let queue = c.rejoin-queue.result in
    let t = c.settle.ensures in
    let crowded = λ (e : c.in-Err.fault ≡ NoFreeBlock). t.crowded (c.in-Err.is ∙ ap (λ (x : QueueFault). Err x) e) in
    let names = latched_err queue.failed c.settle.result (λ number h. (t.latched number h).0) c.in-Err.fault c.in-Err.is in
    let fine = unlatched_err queue.failed c.settle.result (λ number h. (t.latched number h).0) c.in-Err.fault c.in-Err.is in
    ended_stopped g.S.Slot.shown g.R.Ord.cmp g.R.Record.record_of g.R.Record.WIDTH c.args.shared q c.args.popped c.args.failed ps j.can c.args.parts j.came closed.result.0 closed.ensures.closed closed.result.1.items (ap (λ v. v.items) closed.ensures.brought) c.gather_all.new.c c.gather_all.ensures c.first_fault-first.result named queue c.settle.new.self c.rejoin-queue.ensures t.stays t.counted c.in-Err.fault c.in-Err.ensures.refused crowded fine names
