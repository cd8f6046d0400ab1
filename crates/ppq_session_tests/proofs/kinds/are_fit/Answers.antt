use Rattle.std.proofs.Common.{◌≡◌, ◌<◌, false, All, take, refl, sym, subst, arith}
use Rattle.std.proofs.lemmas.List.{take_all, take_more}
use Rattle.std.proofs.lemmas.List.Elements.{All-push}
use Rattle.ppq_record.specs.Order.{is_before}
use Rattle.ppq_session.specs.declared.line.Line.{Line}
use Rattle.ppq_session_tests.proofs.kinds.are_fit.Goals as goal

pub loop-i-preserved : goal.loop-i-preserved
loop-i-preserved g c =
    let named = λ (line : Line g.row.R.Denot). line.pass < 2 in
    let above = λ (line : Line g.row.R.Denot). is_before g.R.Ord.cmp line.record c.args.limit ≡ false in
    let xs = c.args.lines.now in
    let x = c.index-lines-i.result in
    let fit = c.if-not-is_fit.ensures in
    let more = sym (take_more xs c.loop-i.i x (omega arith)) in
    record {
      named = subst (All named) more (All-push named (take c.loop-i.i xs) _ c.loop-i.invariant.named (subst named c.index-lines-i.is (fit.named refl)));
      above = subst (All above) more (All-push above (take c.loop-i.i xs) _ c.loop-i.invariant.above (subst above c.index-lines-i.is (fit.above refl)));
    }

pub returns-clause-named : goal.returns-clause-named
returns-clause-named g c =
    let named = λ (line : Line g.row.R.Denot). line.pass < 2 in
    λ _. subst (All named) (take_all c.loop-i.i c.args.lines.now (omega arith)) c.loop-i.invariant.named

pub returns-clause-above : goal.returns-clause-above
returns-clause-above g c =
    let above = λ (line : Line g.row.R.Denot). is_before g.R.Ord.cmp line.record c.args.limit ≡ false in
    λ _. subst (All above) (take_all c.loop-i.i c.args.lines.now (omega arith)) c.loop-i.invariant.above
