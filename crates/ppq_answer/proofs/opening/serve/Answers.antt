use Rattle.std.proofs.Common.{◌<◌, List, subst, sym, arith}
use Rattle.std.specs.Prelude.{map}
use Rattle.ppq_engine.specs.ppq_script.Words.{words}
use Rattle.ppq_engine.specs.ppq_script.ppq_outside.Shown.{Shown}
use Rattle.ppq_engine.specs.ppq_load.ppq_budget.Sizes.{Numbers}
use Rattle.ppq_engine.proofs.Orders.{laws_of}
use Rattle.ppq_engine.proofs.ppq_load.ppq_queue.Slots.{slots-sums}
use Rattle.ppq_engine.proofs.ppq_load.ppq_queue.ppq_spill.SameSlots.{SameSlots-refl}
use Rattle.ppq_engine.specs.declared.end.End.{End}
use Rattle.ppq_answer.specs.Answers.{ServesTalk}
use Rattle.ppq_answer.specs.declared.outcome.Outcome.TheVariants.{Ended}
use Rattle.ppq_answer.proofs.Ended.{served-begin, halt-told, slots-halt, unopened-talk, memory-talk}
use Rattle.ppq_answer.proofs.opening.serve.Goals as goal

-- the memory for a desk was wanting
pub returns-in_default : goal.returns-in_default
returns-in_default g c = let w = words g.R.PartialEq g.R.PartialOrd g.R.Ord g.R.Record g.R.Fields in
    let slots = map g.S.Slot.shown c.args.slots.items in
    memory-talk w g.I.Source c.args.source.now c.args.sizes slots slots (SameSlots-refl slots) (g.O.Sink.told c.args.out.now) (g.O.Sink.faults c.args.out.now) c.args.incoming.now

-- the queue was not opened
pub returns-in-Err : goal.returns-in-Err
returns-in-Err g c = let w = words g.R.PartialEq g.R.PartialOrd g.R.Ord g.R.Record g.R.Fields in
    let slots = map g.S.Slot.shown c.args.slots.items in
    let back = map g.S.Slot.shown c.in-Err.blocks.items in
    let S : End → Type 0 = λ e. ServesTalk w g.I.Source c.args.sizes slots back c.args.source.now c.args.source.now c.args.incoming.now c.args.incoming.now (g.O.Sink.told c.args.out.now) (g.O.Sink.told c.args.out.now) (g.O.Sink.faults c.args.out.now) (g.O.Sink.faults c.args.out.now) (Ended e) in
    subst S (sym c.unopened.ensures) (unopened-talk w g.I.Source c.args.source.now c.args.sizes slots back (slots-sums slots back c.in-Err.ensures.back) (g.O.Sink.told c.args.out.now) (g.O.Sink.faults c.args.out.now) c.args.incoming.now c.in-Err.fault c.in-Err.ensures.need)

pub returns : goal.returns
returns g c = let w = words g.R.PartialEq g.R.PartialOrd g.R.Ord g.R.Record g.R.Fields in
    let laws = laws_of w c.record_laws.ensures.order c.record_laws.ensures.same in
    let told = g.O.Sink.told in
    let faults = g.O.Sink.faults in
    let q = c.in-Ok-open.queue in
    let o = c.in-Ok-open.ensures in
    let t = c.talk-halt.ensures in
    let new = c.talk-halt.new.machine in
    let later = map g.S.Slot.shown c.close.result.items in
    let desk = c.in-Ok.desk in
    let begun = served-begin w laws (told c.args.out.now) q desk.gathered c.in-Ok.ensures.gathered o.bag o.size o.peak o.unlimited in
    let block : 0 < q.sizes.block = omega (arith, c.known.ensures.range.two_records) in
    let over = halt-told w laws g.I.Source c.args.source.now c.talk-halt.new.source q new.queue c.talk-halt.new.incoming (told c.args.out.now) (told c.talk-halt.new.out) (told c.finish-outcome.new.out)
    (faults c.args.out.now) (faults c.talk-halt.new.out) (faults c.finish-outcome.new.out) desk.gathered new.desk.gathered begun block later c.close.ensures t.requests c.finish-outcome.result c.talk-halt.result t.halts c.finish-outcome.ensures in
    let same = slots-halt w laws g.I.Source c.args.source.now c.talk-halt.new.source q new.queue c.talk-halt.new.incoming (told c.args.out.now) (told c.talk-halt.new.out) (told c.finish-outcome.new.out)
    (faults c.args.out.now) (faults c.talk-halt.new.out) (faults c.finish-outcome.new.out) desk.gathered new.desk.gathered begun block later c.close.ensures t.requests c.finish-outcome.result c.talk-halt.result t.halts in
    let F : List Shown → Numbers → Type 0 =
    λ first sizes.
    ServesTalk w g.I.Source sizes first later c.args.source.now c.talk-halt.new.source c.args.incoming.now c.talk-halt.new.incoming (told c.args.out.now) (told c.finish-outcome.new.out) (faults c.args.out.now) (faults c.finish-outcome.new.out) c.finish-outcome.result in
    let whole : F q.slots q.sizes = record { requests = t.requests; came = t.came; are = t.are; part = over.0; all = over.1; says = over.2; slots = same } in
    subst (F (map g.S.Slot.shown c.args.slots.items)) o.sizes (subst (λ (f : List Shown). F f q.sizes) o.slots whole)
