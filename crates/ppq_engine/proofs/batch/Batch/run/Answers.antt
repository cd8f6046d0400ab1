use Rattle.std.proofs.Common.{◌≡◌, ◌<◌, false, List, All, length, take, sym, ap, ◌∙◌, subst}
use Rattle.ppq_engine.proofs.Orders.{laws_of}
use Rattle.ppq_script.specs.Words.{words}
use Rattle.ppq_script.specs.ppq_record.Order.{is_before}
use Rattle.ppq_script.specs.declared.session.Session.TheVariants.{InLimit}
use Rattle.ppq_script.specs.Parts.{commands_of}
use Rattle.ppq_load.specs.ppq_session.declared.line.Line.{Line}
use Rattle.ppq_load.specs.ppq_session.declared.ask.Ask.{Ask}
use Rattle.ppq_load.specs.ppq_session.Asks.{left_after, answers_to, pops_in}
use Rattle.ppq_engine.specs.declared.collected.Collected.{Collected}
use Rattle.ppq_engine.specs.Limits.{asks_in}
use Rattle.ppq_engine.specs.Pushes.{pushed_in}
use Rattle.ppq_engine.proofs.Asked.{lines-above}
use Rattle.ppq_engine.proofs.Limited.{done-more}
use Rattle.ppq_engine.proofs.Pushes.{lines-named}
use Rattle.ppq_engine.proofs.batch.Batch.run.Goals as goal

pub run-requires-clause-named : goal.run-requires-clause-named
run-requires-clause-named g c κs within = let w = words g.R.PartialEq g.R.PartialOrd g.R.Ord g.R.Record g.R.Fields in
    let front = c.args.session.now.front in
    let P : List (Line g.row.R.Denot) → Type 0 = λ ls. All (λ (l : Line g.row.R.Denot). l.pass < front.sizes.workers) ls in
    subst P (sym (c.deref.ensures.value ∙ ap (λ (b : Collected g.row.R.Denot g.R.Fields g.R.Record g.R.Ord g.R.PartialEq g.R.PartialOrd). b.items.items) c.fill-2.ensures.lines ∙ c.fill.ensures.lines)) (lines-named w front.sizes.workers (InLimit front.limit) (commands_of c.args.lines.now) c.requires.lines)

pub run-requires-clause-above : goal.run-requires-clause-above
run-requires-clause-above g c κs within = let w = words g.R.PartialEq g.R.PartialOrd g.R.Ord g.R.Record g.R.Fields in let laws = laws_of w c.record_laws.ensures.order c.record_laws.ensures.same in
    let front = c.args.session.now.front in
    let P : List (Line g.row.R.Denot) → Type 0 = λ ls. All (λ (l : Line g.row.R.Denot). is_before w.cmp l.record front.limit ≡ false) ls in
    subst P (sym (c.deref.ensures.value ∙ ap (λ (b : Collected g.row.R.Denot g.R.Fields g.R.Record g.R.Ord g.R.PartialEq g.R.PartialOrd). b.items.items) c.fill-2.ensures.lines ∙ c.fill.ensures.lines)) (lines-above w laws front.sizes.workers front.limit (commands_of c.args.lines.now) c.requires.lines)

pub returns-clause-ran : goal.returns-clause-ran
returns-clause-ran g c = let w = words g.R.PartialEq g.R.PartialOrd g.R.Ord g.R.Record g.R.Fields in
    let lines = commands_of c.args.lines.now in
    let lines_are = c.deref.ensures.value ∙ ap (λ (b : Collected g.row.R.Denot g.R.Fields g.R.Record g.R.Ord g.R.PartialEq g.R.PartialOrd). b.items.items) c.fill-2.ensures.lines ∙ c.fill.ensures.lines in
    let asks_are : c.deref-2.result.now ≡ asks_in lines = c.deref-2.ensures.value ∙ c.fill-2.ensures.asks in
    record {
      session = λ queue limit done had. done-more w g.S.Slot.shown queue limit done lines c.deref.result.now c.deref-2.result.now c.run.new.self lines_are asks_are
          (c.run.ensures.session queue limit (pushed_in done) (left_after w.cmp limit queue.bag (asks_in done)) (pops_in (asks_in done)) had);
      answers_are =
          λ queue limit done had tells.
          let left = left_after w.cmp limit queue.bag (asks_in done) in
          let n = length c.run.new.answers.items in
          c.run.ensures.answers queue limit (pushed_in done) left (pops_in (asks_in done)) had tells ∙ ap (λ (asks : List Ask). take n (answers_to w.cmp limit left asks)) asks_are;
      answered = λ sound. c.run.ensures.answered sound ∙ ap (λ (asks : List Ask). length asks) asks_are;
      sizes = c.run.ensures.sizes;
      limit_is = c.run.ensures.limit;
    }
