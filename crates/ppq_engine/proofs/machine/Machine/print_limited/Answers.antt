use Rattle.std.proofs.Common.{◌≡◌, ◌++◌, ◌∙◌, max, refl, arith}
use Rattle.ppq_engine.proofs.Orders.{laws_of}
use Rattle.ppq_script.specs.Words.{words}
use Rattle.ppq_script.specs.ppq_record.Bag.{front}
use Rattle.ppq_script.specs.declared.command.Command.TheVariants.{BulkPopLimit}
use Rattle.ppq_engine.specs.Loads.{none_go, size_after}
use Rattle.ppq_engine.specs.Output.{records_text, mark_text, limited_count}
use Rattle.ppq_engine.specs.declared.stop.Stop.TheVariants.{Sink, Queue}
use Rattle.ppq_engine.proofs.Popped.{mark-is, gathers-as, gathers-kept, gathers-more, takes-part, writes-more, prints-stop}
use Rattle.ppq_load.proofs.ppq_queue.Counted.{few-then}
use Rattle.ppq_load.proofs.ppq_queue.Flushed.{keeps-more}
use Rattle.ppq_engine.proofs.Counted.{few-ok}
use Rattle.ppq_engine.proofs.Kept.{Keeps-refl, quiet-then, lent-stop, sink-stop}
use Rattle.ppq_engine.proofs.Results.{not-ok}
use Rattle.ppq_engine.proofs.machine.Machine.print_limited.Goals as goal

pub returns-in_err-print_popped : goal.returns-in_err-print_popped
returns-in_err-print_popped g c = let w = words g.R.PartialEq g.R.PartialOrd g.R.Ord g.R.Record g.R.Fields in
    let told = g.O.Sink.told in
    let old = c.args.self.now in
    let new = c.print_popped.new.self in
    let lines = records_text w c.args.world.now.form (front w.cmp old.queue.bag (limited_count w old.queue.bag c.args.limit c.args.count)) in
    let mark = mark_text w c.args.world.now.form old.queue.bag c.args.limit c.args.count in
    let most = max old.queue.peak (size_after w none_go old.queue.size (BulkPopLimit c.args.limit c.args.count)) in
    let r = c.from_residual.result in
    let stop = c.in_err-print_popped.field-0.0 in
    let is = c.from_residual.ensures.1 in
    let p = c.in_err-print_popped.ensures in
    record {
      prints =
          prints-stop old.queue.slots (told c.args.out.now) (told c.print_popped.new.out) old.desk.gathered (lines ++ mark) new.desk.gathered r stop is
          (λ tells. writes-more (told c.args.out.now) (told c.print_popped.new.out) old.desk.gathered lines mark new.desk.gathered stop p.lent.no_file (p.prints.part tells));
      counts = sink-stop r stop is (g.O.Sink.faults c.args.out.now) (g.O.Sink.faults c.print_popped.new.out) p.sink.later p.sink.cause;
      left = not-ok r (λ x. x ≡ stop) _ is;
      lent = lent-stop r stop is old.queue old.queue new.queue most 0 (Keeps-refl old.queue) p.lent.kept (omega (arith, p.lent.peak)) p.lent.counted p.lent.refused p.lent.quiet p.lent.no_file;
    }

pub returns-in_err-mark : goal.returns-in_err-mark
returns-in_err-mark g c = let w = words g.R.PartialEq g.R.PartialOrd g.R.Ord g.R.Record g.R.Fields in
    let told = g.O.Sink.told in
    let old = c.args.self.now in
    let mid = c.print_popped.new.self in
    let new = c.mark_of.new.self in
    let lines = records_text w c.args.world.now.form (front w.cmp old.queue.bag (limited_count w old.queue.bag c.args.limit c.args.count)) in
    let mark = mark_text w c.args.world.now.form old.queue.bag c.args.limit c.args.count in
    let most = max old.queue.peak (size_after w none_go old.queue.size (BulkPopLimit c.args.limit c.args.count)) in
    let r = c.from_residual-in_err-mark.result in
    let stop = Queue c.in_err-mark.field-0.0 in
    let is = c.from_residual-in_err-mark.ensures.1 in
    let p = c.in_ok-print_popped.ensures in
    let m = c.in_err-mark.ensures.called in
    record {
      prints =
          prints-stop old.queue.slots (told c.args.out.now) (told c.print_popped.new.out) old.desk.gathered (lines ++ mark) new.desk.gathered r stop is
          (λ tells. record { part = lines; rest = mark; all = refl; gathers = gathers-kept m.gathered (p.prints.text tells) });
      counts = sink-stop r stop is (g.O.Sink.faults c.args.out.now) (g.O.Sink.faults c.print_popped.new.out) p.sink.later p.sink.stays;
      left = not-ok r (λ x. x ≡ stop) _ is;
      lent = lent-stop r stop is old.queue mid.queue new.queue most 0 p.lent.kept m.kept (omega (arith, p.lent.peak, m.peak)) (few-then 0 0 0 0 old.queue mid.queue new.queue _ _ p.lent.counted m.counted) m.refused (quiet-then old.queue.slots mid.queue.slots new.queue.slots p.left.quiet c.in_err-mark.field-0.0 m.quiet) tt;
    }

pub returns-in_err-print : goal.returns-in_err-print
returns-in_err-print g c = let w = words g.R.PartialEq g.R.PartialOrd g.R.Ord g.R.Record g.R.Fields in
    let told = g.O.Sink.told in
    let old = c.args.self.now in
    let mid = c.print_popped.new.self in
    let new = c.mark_of.new.self in
    let lines = records_text w c.args.world.now.form (front w.cmp old.queue.bag (limited_count w old.queue.bag c.args.limit c.args.count)) in
    let mark = mark_text w c.args.world.now.form old.queue.bag c.args.limit c.args.count in
    let most = max old.queue.peak (size_after w none_go old.queue.size (BulkPopLimit c.args.limit c.args.count)) in
    let r = c.from_residual-in_err-print.result in
    let is = c.from_residual-in_err-print.ensures.1 in
    let p = c.in_ok-print_popped.ensures in
    let m = c.mark_of.ensures.called in
    let cause = c.in_err-print.ensures.cause in
    record {
      prints =
          prints-stop old.queue.slots (told c.args.out.now) (told c.print.new.out) old.desk.gathered (lines ++ mark) c.print.new.gathered r Sink is
          (λ tells. takes-part (told c.args.out.now) (told c.print_popped.new.out) (told c.print.new.out) old.desk.gathered new.desk.gathered lines mark (gathers-kept m.gathered (p.prints.text tells)) c.in_err-print.ensures.part);
      counts = sink-stop r Sink is (g.O.Sink.faults c.args.out.now) (g.O.Sink.faults c.print.new.out) (omega (arith, p.sink.stays, cause.later)) (omega (arith, p.sink.stays, cause.failed));
      left = not-ok r (λ x. x ≡ Sink) _ is;
      lent = lent-stop r Sink is old.queue mid.queue new.queue most 0 p.lent.kept m.kept (omega (arith, p.lent.peak, m.peak)) (few-then 0 0 0 0 old.queue mid.queue new.queue _ _ p.lent.counted m.counted) tt tt tt;
    }

pub returns : goal.returns
returns g c = let w = words g.R.PartialEq g.R.PartialOrd g.R.Ord g.R.Record g.R.Fields in let laws = laws_of w c.record_laws.ensures.order c.record_laws.ensures.same in
    let told = g.O.Sink.told in
    let old = c.args.self.now in
    let mid = c.print_popped.new.self in
    let new = c.mark_of.new.self in
    let lines = records_text w c.args.world.now.form (front w.cmp old.queue.bag (limited_count w old.queue.bag c.args.limit c.args.count)) in
    let mark = mark_text w c.args.world.now.form old.queue.bag c.args.limit c.args.count in
    let p = c.in_ok-print_popped.ensures in
    let called = c.mark_of.ensures.called in
    let m = c.in_ok-mark.ensures in
    record {
      prints = record {
        text =
            λ tells.
            let is = m.text (p.lent.kept.tells tells) ∙ mark-is w laws c.args.world.now.form mid.queue.bag old.queue.bag c.args.limit c.args.count (p.left.bag tells) in
            gathers-more (told c.args.out.now) (told c.print_popped.new.out) (told c.print.new.out) old.desk.gathered mid.desk.gathered c.print.new.gathered lines mark (p.prints.text tells) (gathers-as called.gathered is c.in_ok-print.ensures.ok);
        part = tt;
      };
      counts = record { later = omega (arith, p.sink.stays, c.print.ensures.cause.later); stays = c.in_ok-print.ensures.cause.ok ∙ p.sink.stays; cause = tt };
      left = λ given. record { bag = λ tells x. m.left.bag (p.lent.kept.tells tells) x ∙ p.left.bag tells x; low = omega (arith, p.left.low, m.left.low); high = omega (arith, p.left.high, m.left.high); sound = m.left.sound; quiet = m.left.quiet ∙ p.left.quiet };
      lent = record { kept = keeps-more old.queue mid.queue new.queue p.lent.kept called.kept; peak = omega (arith, p.lent.peak, called.peak); counted = few-ok old.queue new.queue (few-then 0 0 0 0 old.queue mid.queue new.queue _ _ p.lent.counted m.called.counted); refused = tt; quiet = tt; no_file = tt };
    }
