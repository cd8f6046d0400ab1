use Rattle.std.proofs.Common.{◌≡◌, ◌-◌, ℕ, List, [], refl, sym, subst, arith}
use Rattle.ppq_script.specs.Words.{words}
use Rattle.ppq_script.specs.ppq_record.Bag.{without_front}
use Rattle.ppq_script.specs.ppq_outside.Told.{TakesPart}
use Rattle.ppq_script.proofs.ppq_outside.Takes.{part_of_more}
use Rattle.ppq_script.specs.declared.command.Command.{Command}
use Rattle.ppq_script.specs.declared.command.Command.TheVariants.{BulkPop}
use Rattle.ppq_engine.specs.Calls.{Leaves, Lends}
use Rattle.ppq_engine.specs.Loads.{none_go, all_go, size_after}
use Rattle.ppq_engine.specs.Output.{outside, text_of, after}
use Rattle.ppq_engine.specs.declared.stop.Stop.TheVariants.{Sink, Queue}
use Rattle.ppq_engine.proofs.Counted.{few-ok}
use Rattle.ppq_engine.proofs.Kept.{Keeps-refl, lent-more, lent-stop, sink-stop}
use Rattle.ppq_engine.proofs.Popped.{gathers-as, gathers-kept, gathers-nothing, prints-stop}
use Rattle.ppq_engine.proofs.Results.{not-ok, on-ok-map}
use Rattle.ppq_engine.proofs.machine.Machine.lend.Goals as goal

pub returns-in-BulkPop : goal.returns-in-BulkPop
returns-in-BulkPop g c = let w = words g.R.PartialEq g.R.PartialOrd g.R.Ord g.R.Record g.R.Fields in
    let told = g.O.Sink.told in
    let faults = g.O.Sink.faults in
    let old = c.args.self.now in
    let p = c.print_popped in
    let new = p.new.self in
    let count = c.in-BulkPop.count in
    let k = BulkPop count in
    let Done : Command g.row.R.Denot → Type 0 = λ k. Lends w c.args.world.now.form (told c.args.out.now) (told p.new.out) (faults c.args.out.now) (faults p.new.out) old.queue new.queue old.desk.gathered new.desk.gathered k p.result in
    let Popped : Type 0 = Leaves old.queue new.queue (without_front w.cmp old.queue.bag count) (old.queue.size - count) (old.queue.size - count) in
    let Left : Type 0 = (given : ℕ → List g.row.R.Denot) → Leaves old.queue new.queue (after w given (outside old.queue.bag) k).bag (size_after w all_go old.queue.size k) (size_after w none_go old.queue.size k) in
    subst Done (sym c.in-BulkPop.is) (record { prints = p.ensures.prints; counts = p.ensures.sink; left = on-ok-map p.result Popped Left (λ left given. left) p.ensures.left; lent = lent-more p.ensures.lent (omega arith) })

pub returns-in-BulkPopLimit : goal.returns-in-BulkPopLimit
returns-in-BulkPopLimit g c = let w = words g.R.PartialEq g.R.PartialOrd g.R.Ord g.R.Record g.R.Fields in
    let told = g.O.Sink.told in
    let faults = g.O.Sink.faults in
    let p = c.print_limited in
    let Done : Command g.row.R.Denot → Type 0 = λ k. Lends w c.args.world.now.form (told c.args.out.now) (told p.new.out) (faults c.args.out.now) (faults p.new.out) c.args.self.now.queue p.new.self.queue c.args.self.now.desk.gathered p.new.self.desk.gathered k p.result in
    subst Done (sym c.in-BulkPopLimit.is) p.ensures

pub returns-in_err-answer-in_default : goal.returns-in_err-answer-in_default
returns-in_err-answer-in_default g c = let w = words g.R.PartialEq g.R.PartialOrd g.R.Ord g.R.Record g.R.Fields in
    let put = g.O.Sink.told c.args.out.now in
    let faults = g.O.Sink.faults c.args.out.now in
    let old = c.args.self.now in
    let new = c.act.new.self in
    let text = text_of w c.args.world.now.form (outside old.queue.bag) c.args.command in
    let r = c.from_residual.result in
    let stop = Queue c.in_err-answer-in_default.field-0.0 in
    let is = c.from_residual.ensures.1 in
    let a = c.in_err-answer-in_default.ensures.called in
    record {
      prints = prints-stop old.queue.slots put put old.desk.gathered text new.desk.gathered r stop is (λ tells. record { part = []; rest = text; all = refl; gathers = gathers-kept a.gathered (gathers-nothing put old.desk.gathered) });
      counts = sink-stop r stop is faults faults (omega arith) refl;
      left = not-ok r (λ x. x ≡ stop) _ is;
      lent = lent-stop r stop is old.queue old.queue new.queue _ _ (Keeps-refl old.queue) a.kept a.peak a.counted a.refused a.quiet tt;
    }

pub returns-in_err-print-in_default : goal.returns-in_err-print-in_default
returns-in_err-print-in_default g c = let w = words g.R.PartialEq g.R.PartialOrd g.R.Ord g.R.Record g.R.Fields in
    let told = g.O.Sink.told in
    let faults = g.O.Sink.faults in
    let old = c.args.self.now in
    let new = c.act.new.self in
    let text = text_of w c.args.world.now.form (outside old.queue.bag) c.args.command in
    let r = c.from_residual-in_err-print-in_default.result in
    let is = c.from_residual-in_err-print-in_default.ensures.1 in
    let a = c.act.ensures.called in
    let cause = c.in_err-print-in_default.ensures.cause in
    let P : List ℕ → Type 0 = λ had. TakesPart (told c.args.out.now) (told c.print.new.out) had in
    record {
      prints =
          prints-stop old.queue.slots (told c.args.out.now) (told c.print.new.out) old.desk.gathered text c.print.new.gathered r Sink is
          (λ tells. part_of_more (told c.args.out.now) (told c.print.new.out) old.desk.gathered text (subst P a.gathered c.in_err-print-in_default.ensures.part));
      counts = sink-stop r Sink is (faults c.args.out.now) (faults c.print.new.out) cause.later cause.failed;
      left = not-ok r (λ x. x ≡ Sink) _ is;
      lent = lent-stop r Sink is old.queue old.queue new.queue _ _ (Keeps-refl old.queue) a.kept a.peak a.counted tt tt tt;
    }

pub returns-in_ok-print-in_default : goal.returns-in_ok-print-in_default
returns-in_ok-print-in_default g c =
    let a = c.act.ensures.called in
    let ok = c.in_ok-answer-in_default.ensures in
    let cause = c.in_ok-print-in_default.ensures.cause in
    record {
      prints = record { text = λ tells. gathers-as a.gathered (ok.text tells) c.in_ok-print-in_default.ensures.ok; part = tt };
      counts = record { later = cause.later; stays = cause.ok; cause = tt };
      left = λ given. let left = ok.left given in record { bag = (left none_go).bag; low = (left all_go).low; high = (left none_go).high; sound = (left none_go).sound; quiet = (left none_go).quiet };
      lent = record { kept = a.kept; peak = a.peak; counted = few-ok c.args.self.now.queue c.act.new.self.queue ok.called.counted; refused = tt; quiet = tt; no_file = tt };
    }
