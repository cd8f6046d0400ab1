use Rattle.std.proofs.Common.{◌≡◌, rules, [], List, length, refl, sym, ◌∙◌, subst, arith}
use Rattle.ppq_script.specs.Words.{words}
use Rattle.std.proofs.lemmas.List.{nil_from_length}
use Rattle.ppq_script.specs.declared.numbered.Numbered.{Numbered}
use Rattle.ppq_script.specs.declared.session.Session.TheVariants.{InLimit}
use Rattle.ppq_script.specs.Parts.{AreLines, commands_of}
use Rattle.ppq_load.specs.ppq_budget.Sizes.{Numbers}
use Rattle.ppq_engine.specs.Limits.{BreaksOff}
use Rattle.ppq_engine.proofs.Limited.{IsGoingOn, going-begin, going-more, runs-all, runs-stopped, breaks-off}
use Rattle.ppq_engine.proofs.Pushes.{some_left, lines-split}
use Rattle.ppq_engine.proofs.Results.{on-err}
use Rattle.ppq_engine.proofs.limits.run_lines.Goals as goal

pub batches-init : goal.batches-init
batches-init g c = let w = words g.R.PartialEq g.R.PartialOrd g.R.Ord g.R.Record g.R.Fields in
    record {
      on = going-begin w g.S.Slot.shown c.args.world.now.form (commands_of c.args.lines.now) (g.O.Sink.told c.args.out.now) c.args.gathered.now c.args.session.now c.requires.going;
      lines = c.requires.lines;
      stays = refl;
    }

pub run-all-requires-clause-lines : goal.run-all-requires-clause-lines
run-all-requires-clause-lines g c κs within = let w = words g.R.PartialEq g.R.PartialOrd g.R.Ord g.R.Record g.R.Fields in
    let front = c.batches.session.front in
    (lines-split w front.sizes.workers (InLimit front.limit) (commands_of c.cut.result.0.now) (commands_of c.cut.result.1.now) (commands_of c.batches.rest.now) c.cut.ensures.all c.batches.invariant.lines).0

pub run-all-requires-clause-going : goal.run-all-requires-clause-going
run-all-requires-clause-going g c κs within = c.batches.invariant.on.going

pub returns-in_err-print-clause-broken : goal.returns-in_err-print-clause-broken
returns-in_err-print-clause-broken g c = let w = words g.R.PartialEq g.R.PartialOrd g.R.Ord g.R.Record g.R.Fields in
    let shown = g.S.Slot.shown in
    let told = g.O.Sink.told in
    let lines = commands_of c.args.lines.now in
    let old = c.args.session.now in
    let new = c.run-all.new.session in
    on-err c.from_residual.result (BreaksOff w shown c.args.world.now.form lines (told c.args.out.now) (told c.print.new.out) c.args.gathered.now old new)
    (breaks-off w shown c.args.world.now.form lines (told c.args.out.now) c.args.gathered.now old (commands_of c.batches.rest.now) (commands_of c.cut.result.0.now) (commands_of c.cut.result.1.now) (told c.batches.out) (told c.print.new.out) c.batches.gathered c.print.new.gathered
    c.batches.session new c.run-all.new.self.answers.items c.batches.invariant.on c.cut.ensures.all c.run-all.ensures.ran c.in_err-print.ensures.part)

pub returns-then-not-all-clause-ran : goal.returns-then-not-all-clause-ran
returns-then-not-all-clause-ran g c = let w = words g.R.PartialEq g.R.PartialOrd g.R.Ord g.R.Record g.R.Fields in
    let told = g.O.Sink.told in
    runs-stopped w g.S.Slot.shown c.args.world.now.form (commands_of c.args.lines.now) (told c.args.out.now) c.args.gathered.now c.args.session.now (commands_of c.batches.rest.now) (commands_of c.cut.result.0.now) (commands_of c.cut.result.1.now)
    (told c.batches.out) (told c.print.new.out) c.batches.gathered c.print.new.gathered c.batches.session c.run-all.new.session c.run-all.new.self.answers.items
    c.batches.invariant.on c.cut.ensures.all c.run-all.ensures.ran c.in_ok-print.ensures.text (c.run-all.ensures.stopped c.if-not-all.true)

pub batches-smaller : goal.batches-smaller
batches-smaller g c = omega (arith, c.cut.ensures.fewer (some_left (length c.batches.rest.now) c.is_empty.result c.is_empty.ensures c.batches-test.true))

pub batches-preserved : goal.batches-preserved
batches-preserved g c = let w = words g.R.PartialEq g.R.PartialOrd g.R.Ord g.R.Record g.R.Fields in
    let told = g.O.Sink.told in
    let rest = commands_of c.batches.rest.now in
    let first = commands_of c.cut.result.0.now in
    let behind = commands_of c.cut.result.1.now in
    let front = c.batches.session.front in
    let P : Numbers → Type 0 = λ n. AreLines w n.workers (InLimit front.limit) behind in
    let Q : g.row.R.Denot → Type 0 = λ l. AreLines w c.run-all.new.session.front.sizes.workers (InLimit l) behind in
    record {
      on =
          going-more w g.S.Slot.shown c.args.world.now.form (commands_of c.args.lines.now) (told c.args.out.now) c.args.gathered.now c.args.session.now rest first behind
          (told c.batches.out) (told c.print.new.out) c.batches.gathered c.print.new.gathered c.batches.session c.run-all.new.session c.run-all.new.self.answers.items
          c.batches.invariant.on c.cut.ensures.all c.run-all.ensures.ran c.in_ok-print.ensures.text (c.run-all.ensures.all c.if-not-all.false);
      lines =
          subst Q (sym c.run-all.ensures.ran.limit_is)
          (subst P (sym c.run-all.ensures.ran.sizes) (lines-split w front.sizes.workers (InLimit front.limit) first behind rest c.cut.ensures.all c.batches.invariant.lines).1);
      stays = c.in_ok-print.ensures.cause.ok ∙ c.batches.invariant.stays;
    }

pub returns-clause-ran : goal.returns-clause-ran
returns-clause-ran g c = let w = words g.R.PartialEq g.R.PartialOrd g.R.Ord g.R.Record g.R.Fields in
    let told = g.O.Sink.told in
    let lines = commands_of c.args.lines.now in
    let none : c.batches.rest.now ≡ [] = nil_from_length c.batches.rest.now (search rules) in
    let P : List (Numbered g.row.R.Denot) → Type 0 = λ ls. IsGoingOn w g.S.Slot.shown c.args.world.now.form lines (told c.args.out.now) c.args.gathered.now c.args.session.now (commands_of ls) (told c.batches.out) c.batches.gathered c.batches.session in
    runs-all w g.S.Slot.shown c.args.world.now.form lines (told c.args.out.now) c.args.gathered.now c.args.session.now (told c.batches.out) c.batches.gathered c.batches.session (subst P none c.batches.invariant.on)
