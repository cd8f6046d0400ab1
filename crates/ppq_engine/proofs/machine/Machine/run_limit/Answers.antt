use Rattle.std.proofs.Common.{◌<◌, length, refl, sym, ap, ◌∙◌, subst, arith}
use Rattle.ppq_engine.proofs.Orders.{laws_of}
use Rattle.ppq_script.specs.Words.{words}
use Rattle.ppq_script.specs.declared.session.Session.TheVariants.{InLimit}
use Rattle.ppq_script.specs.Parts.{AreLines, commands_of}
use Rattle.ppq_load.specs.ppq_budget.Sizes.{Numbers, batch_of}
use Rattle.ppq_load.specs.ppq_session.LimitSessions.{begun_in}
use Rattle.ppq_load.proofs.Counting.{few-to}
use Rattle.ppq_load.proofs.ppq_queue.Bounds.{batch_some}
use Rattle.ppq_load.proofs.ppq_queue.Counted.{few-begun, few-more}
use Rattle.ppq_load.proofs.ppq_queue.ppq_spill.SameSlots.{SameSlots-refl}
use Rattle.ppq_engine.specs.Pushes.{pushed_in}
use Rattle.ppq_engine.proofs.Counted.{unrefused, few-none}
use Rattle.ppq_engine.proofs.LimitParts.{SessionRan, ended-runs, ended-stopped, ended-quiet, ended-by_limit, ended-kept, ended-given, ended-few, ended-counts_few, ended-counts, begin-stopped}
use Rattle.ppq_engine.proofs.Loads.{unbegun-stop}
use Rattle.ppq_engine.proofs.Popped.{gathers-nothing}
use Rattle.ppq_engine.proofs.Stops.{file_unput, session_by_file, session-by_limit}
use Rattle.ppq_engine.proofs.Turns.{limit-goes}
use Rattle.ppq_engine.proofs.machine.Machine.run_limit.Goals as goal

pub new-requires-after_bounds : goal.new-requires-after_bounds
new-requires-after_bounds g c = omega (arith, c.room.ensures, c.args.self.round, batch_some c.args.self.queue.sizes c.known.ensures.range)

pub returns-in_default : goal.returns-in_default
returns-in_default g c = let w = words g.R.PartialEq g.R.PartialOrd g.R.Ord g.R.Record g.R.Fields in
    let queue = c.args.self.queue in
    let told = g.O.Sink.told c.args.out.now in
    let had = c.args.self.desk.gathered in
    record {
      goes = limit-goes w c.args.world.now.form c.args.limit (commands_of c.args.lines.now) queue queue told told had had _ tt tt (λ tells. gathers-nothing told had) tt (SameSlots-refl queue.slots) refl 0 (omega arith) (few-to queue queue unrefused _ (λ A holds. tt) (few-more 0 0 0 1 queue queue unrefused (omega arith) (omega arith) (few-none queue)));
      by_limit = tt;
      sink = record { later = omega arith; stays = tt; cause = refl };
    }

pub run_lines-printed-requires-clause-lines : goal.run_lines-printed-requires-clause-lines
run_lines-printed-requires-clause-lines g c κs within = let w = words g.R.PartialEq g.R.PartialOrd g.R.Ord g.R.Record g.R.Fields in
    let lines = commands_of c.args.lines.now in
    let begun = c.in-Ok-begin.ensures.session in
    let P : Numbers → Type 0 = λ n. AreLines w n.workers (InLimit c.args.limit) lines in
    let Q : g.row.R.Denot → Type 0 = λ l. AreLines w c.in-Ok-begin.session.front.sizes.workers (InLimit l) lines in
    subst Q (sym begun.limit_is) (subst P (sym begun.keeps.sizes) c.requires.lines)

pub run_lines-printed-requires-clause-going : goal.run_lines-printed-requires-clause-going
run_lines-printed-requires-clause-going g c κs within = c.in-Ok-begin.ensures.going

pub invariant_of-result-in-Ok-begin : goal.invariant_of-result-in-Ok-begin
invariant_of-result-in-Ok-begin g c = let w = words g.R.PartialEq g.R.PartialOrd g.R.Ord g.R.Record g.R.Fields in let laws = laws_of w c.record_laws.ensures.order c.record_laws.ensures.same in
    let queue = c.args.self.queue in
    let before = g.O.Sink.told c.args.out.now in
    let now = g.O.Sink.told c.run_lines-printed.new.out in
    let had = c.args.self.desk.gathered in
    let has = c.run_lines-printed.new.gathered in
    let lines = commands_of c.args.lines.now in
    let end = c.end-queue in
    let run : SessionRan w laws g.S.Slot.shown c.args.world.now.form queue before now had has c.run_lines-printed.new.session queue.sizes.workers c.args.limit lines c.requires.lines c.in-Ok-begin.session end.result.0 c.run_lines-printed.result end.result.1 = record {
      begun = c.in-Ok-begin.ensures.session;
      lines = c.run_lines-printed.ensures.ran;
      broken = c.run_lines-printed.ensures.broken;
      going = end.ensures.all;
      over = λ given left popped il. end.ensures.over queue c.args.limit given left popped il;
      left = end.ensures.left;
    } in
    record { round = c.args.self.round ∙ ap batch_of (sym (ended-kept w laws g.S.Slot.shown c.args.world.now.form queue before now had has c.run_lines-printed.new.session queue.sizes.workers c.args.limit lines c.requires.lines c.in-Ok-begin.session end.result.0 c.run_lines-printed.result end.result.1 run).sizes); piece = c.args.self.piece }

pub returns-in-Ok-begin : goal.returns-in-Ok-begin
returns-in-Ok-begin g c = let w = words g.R.PartialEq g.R.PartialOrd g.R.Ord g.R.Record g.R.Fields in let laws = laws_of w c.record_laws.ensures.order c.record_laws.ensures.same in
    let shown = g.S.Slot.shown in
    let limit = c.args.limit in
    let queue = c.args.self.queue in
    let before = g.O.Sink.told c.args.out.now in
    let now = g.O.Sink.told c.run_lines-printed.new.out in
    let had = c.args.self.desk.gathered in
    let has = c.run_lines-printed.new.gathered in
    let lines = commands_of c.args.lines.now in
    let are = c.requires.lines in
    let old = c.in-Ok-begin.session in
    let mid = c.run_lines-printed.new.session in
    let new = c.end-queue.result.0 in
    let printed = c.run_lines-printed.result in
    let over = c.end-queue.result.1 in
    let s = c.ended.result in
    let e = c.ended.ensures in
    let run : SessionRan w laws shown c.args.world.now.form queue before now had has mid queue.sizes.workers limit lines are old new printed over = record {
      begun = c.in-Ok-begin.ensures.session;
      lines = c.run_lines-printed.ensures.ran;
      broken = c.run_lines-printed.ensures.broken;
      going = c.end-queue.ensures.all;
      over = λ given left popped il. c.end-queue.ensures.over queue limit given left popped il;
      left = c.end-queue.ensures.left;
    } in
    let kept = ended-kept w laws shown c.args.world.now.form queue before now had has mid queue.sizes.workers limit lines are old new printed over run in
    let given = ended-given w laws shown c.args.world.now.form queue before now had has mid queue.sizes.workers limit lines are old new printed over run in
    record {
      goes =
          limit-goes w c.args.world.now.form limit lines queue new before now had has s (ended-runs w laws shown c.args.world.now.form queue before now had has mid queue.sizes.workers limit lines are old new printed over s e run) (ended-by_limit printed over s e)
          (ended-stopped w laws shown c.args.world.now.form queue before now had has mid queue.sizes.workers limit lines are old new printed over s e run)
          (ended-quiet w laws shown c.args.world.now.form queue before now had has mid queue.sizes.workers limit lines are old new printed over s e run) kept.slots kept.sizes
          (length (pushed_in given)) (ended-few w laws shown c.args.world.now.form queue before now had has mid queue.sizes.workers limit lines are old new printed over run)
          (ended-counts_few w laws shown c.args.world.now.form queue before now had has mid queue.sizes.workers limit lines are old new printed over s e run);
      by_limit = ended-by_limit printed over s e;
      sink = ended-counts printed over s e (g.O.Sink.faults c.args.out.now) (g.O.Sink.faults c.run_lines-printed.new.out) c.run_lines-printed.ensures.cause;
    }

pub returns : goal.returns
returns g c = let w = words g.R.PartialEq g.R.PartialOrd g.R.Ord g.R.Record g.R.Fields in
    let told = g.O.Sink.told c.args.out.now in
    let faults = g.O.Sink.faults c.args.out.now in
    let had = c.args.self.desk.gathered in
    let queue = c.args.self.queue in
    let new = c.in-Err.queue in
    let body = commands_of c.args.lines.now in
    let stop = c.from.result in
    let some : 0 < queue.sizes.block = omega (arith, c.known.ensures.range.two_records) in
    let back = unbegun-stop queue (begun_in queue) new queue.peak c.in-Err.fault stop refl some (omega arith) c.from.ensures c.in-Err.ensures.refused in
    let by_limit = session-by_limit stop back.by_session in
    let stopped = begin-stopped w c.args.world.now.form told had queue new.slots c.args.limit body stop some back.refused back.by_session in
    record {
      goes = limit-goes w c.args.world.now.form c.args.limit body queue new told told had had _ tt by_limit stopped back.quiet back.kept.slots back.kept.sizes
          0 (omega arith) (few-begun queue new _ back.kept.sizes back.counted);
      by_limit = by_limit;
      sink = record { later = omega arith; stays = tt; cause = file_unput faults stop (session_by_file stop back.by_session) };
    }
