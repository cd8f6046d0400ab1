use Rattle.std.proofs.Common.{rules, ◌++◌, ◌∙◌, ℕ, List, ap, sym, subst, take, arith, refl}
use Rattle.ppq_script.specs.Words.{words}
use Rattle.ppq_script.specs.ppq_outside.Told.{TakesPart}
use Rattle.ppq_engine.specs.Output.{record_text, records_text}
use Rattle.ppq_engine.specs.Gathers.{Gathers}
use Rattle.ppq_engine.proofs.Popped.{gathers-more, gathers-nothing, lines-more, lines-put}
use Rattle.ppq_engine.proofs.Results.{on-err}
use Rattle.ppq_engine.proofs.Running.{take-next}
use Rattle.ppq_engine.proofs.pop.print_all.Goals as goal

pub loop-i-init : goal.loop-i-init
loop-i-init g c = record { text = gathers-nothing (g.O.Sink.told c.args.out.now) c.args.gathered.now; stays = refl }

pub returns-in_err-print : goal.returns-in_err-print
returns-in_err-print g c = let w = words g.R.PartialEq g.R.PartialOrd g.R.Ord g.R.Record g.R.Fields in
    let told = g.O.Sink.told in
    record {
      text = search rules;
      part = on-err c.from_residual.result (TakesPart (told c.args.out.now) (told c.print.new.out) (c.args.gathered.now ++ records_text w c.args.form c.args.items.now))
          (lines-put w c.args.form (told c.args.out.now) (told c.loop-i.out) (told c.print.new.out) c.args.gathered.now c.loop-i.gathered c.args.items.now c.loop-i.i (omega arith) c.loop-i.invariant.text c.in_err-print.ensures.part);
      cause = search rules;
    }

pub loop-i-preserved : goal.loop-i-preserved
loop-i-preserved g c = let w = words g.R.PartialEq g.R.PartialOrd g.R.Ord g.R.Record g.R.Fields in
    let told = g.O.Sink.told in
    let items = c.args.items.now in
    let P : List ℕ → Type 0 = λ t. Gathers (told c.args.out.now) (told c.print.new.out) c.args.gathered.now t c.print.new.gathered in
    record {
      text =
          subst P (sym (ap (records_text w c.args.form) (take-next items c.loop-i.i c.item_at-item.result (omega arith) c.item_at-item.ensures) ∙ lines-more w c.args.form (take c.loop-i.i items) c.item_at-item.result))
          (gathers-more (told c.args.out.now) (told c.loop-i.out) (told c.print.new.out) c.args.gathered.now c.loop-i.gathered c.print.new.gathered (records_text w c.args.form (take c.loop-i.i items)) (record_text w c.args.form c.item_at-item.result) c.loop-i.invariant.text c.in_ok-print.ensures.ok);
      stays = c.in_ok-print.ensures.cause.ok ∙ c.loop-i.invariant.stays;
    }
