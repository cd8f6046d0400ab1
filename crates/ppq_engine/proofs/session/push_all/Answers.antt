use Rattle.std.proofs.Common.{◌≡◌, ◌<◌, rules, [], List, All, length, refl, sym, ◌∙◌, subst, arith}
use Rattle.ppq_script.specs.Words.{words}
use Rattle.std.proofs.lemmas.List.{nil_from_length}
use Rattle.ppq_script.specs.declared.numbered.Numbered.{Numbered}
use Rattle.ppq_script.specs.declared.session.Session.TheVariants.{InBulk}
use Rattle.ppq_script.specs.Parts.{AreLines, commands_of}
use Rattle.ppq_load.specs.ppq_session.declared.line.Line.{Line}
use Rattle.ppq_load.specs.ppq_session.BulkSession.{BulkHolding}
use Rattle.ppq_engine.specs.Pushes.{IsPushing}
use Rattle.ppq_engine.proofs.Pushes.{some_left, lines-split, lines-named, pushing-begin, pushing-more}
use Rattle.ppq_engine.proofs.session.push_all.Goals as goal

pub batches-init : goal.batches-init
batches-init g c = record { pushing = pushing-begin g.S.Slot.shown (commands_of c.args.lines.now) c.args.session.now; lines = c.requires.lines; going = c.requires.going }

pub push-requires-clause-named : goal.push-requires-clause-named
push-requires-clause-named g c κs within = let w = words g.R.PartialEq g.R.PartialOrd g.R.Ord g.R.Record g.R.Fields in
    let workers = c.batches.session.bulk.sizes.workers in
    let first = commands_of c.cut.result.0.now in
    let P : List (Line g.row.R.Denot) → Type 0 = λ ls. All (λ (l : Line g.row.R.Denot). l.pass < workers) ls in
    let are = lines-split w workers InBulk first (commands_of c.cut.result.1.now) (commands_of c.batches.rest.now) c.cut.ensures.all c.batches.invariant.lines in
    subst P (sym (c.as_slice.ensures.value ∙ c.fill.ensures.lines)) (lines-named w workers InBulk first are.0)

pub returns-then-not-push : goal.returns-then-not-push
returns-then-not-push g c = record {
  rest = commands_of c.cut.result.1.now;
  pushing =
      pushing-more g.S.Slot.shown (commands_of c.args.lines.now) c.args.session.now (commands_of c.batches.rest.now) (commands_of c.cut.result.0.now) (commands_of c.cut.result.1.now) c.as_slice.result.now c.batches.session c.push.new.self
      c.batches.invariant.pushing c.cut.ensures.all (c.as_slice.ensures.value ∙ c.fill.ensures.lines) c.push.ensures.session;
  whole = λ going. let a = c.push.ensures.all.1 going in let b = c.if-not-push.true in cc;
}

pub batches-smaller : goal.batches-smaller
batches-smaller g c = omega (arith, c.cut.ensures.fewer (some_left (length c.batches.rest.now) c.is_empty.result c.is_empty.ensures c.batches-test.true))

pub batches-preserved : goal.batches-preserved
batches-preserved g c = let w = words g.R.PartialEq g.R.PartialOrd g.R.Ord g.R.Record g.R.Fields in
    let rest = commands_of c.batches.rest.now in
    let first = commands_of c.cut.result.0.now in
    let behind = commands_of c.cut.result.1.now in
    let P : BulkHolding g.row.S.Denot g.row.R.Denot → Type 0 = λ b. AreLines w b.sizes.workers InBulk behind in
    record {
      pushing =
          pushing-more g.S.Slot.shown (commands_of c.args.lines.now) c.args.session.now rest first behind c.as_slice.result.now c.batches.session c.push.new.self
          c.batches.invariant.pushing c.cut.ensures.all (c.as_slice.ensures.value ∙ c.fill.ensures.lines) c.push.ensures.session;
      lines = subst P (sym c.push.ensures.bulk) (lines-split w c.batches.session.bulk.sizes.workers InBulk first behind rest c.cut.ensures.all c.batches.invariant.lines).1;
      going = c.push.ensures.all.0 c.if-not-push.false;
    }

pub returns : goal.returns
returns g c =
    let none : c.batches.rest.now ≡ [] = nil_from_length c.batches.rest.now (search rules) in
    let P : List (Numbered g.row.R.Denot) → Type 0 = λ ls. IsPushing g.S.Slot.shown (commands_of c.args.lines.now) (commands_of ls) c.args.session.now c.batches.session in
    record { rest = []; pushing = subst P none c.batches.invariant.pushing; whole = λ going. refl }
