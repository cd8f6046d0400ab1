use Rattle.std.proofs.Common.{All, take, refl, sym, subst, arith}
use Rattle.std.proofs.lemmas.List.{take_all, take_more}
use Rattle.std.proofs.lemmas.List.Elements.{All-push}
use Rattle.ppq_session.specs.Dealing.{IsGoing}
use Rattle.ppq_session.proofs.going.all_going.Goals as goal

pub returns-then-not-is_going-clause-ended : goal.returns-then-not-is_going-clause-ended
returns-then-not-is_going-clause-ended g c = λ _. (c.loop-i.i, c.index-passes-i.result, omega arith, sym c.index-passes-i.is, c.if-not-is_going.ensures.ended refl)

pub loop-i-preserved : goal.loop-i-preserved
loop-i-preserved g c =
    let P = λ (p : g.row.P.Denot). IsGoing (g.P.SessionPass.pass p) in
    let xs = c.args.passes.now in
    let x = c.index-passes-i.result in
    subst (All P) (sym (take_more xs c.loop-i.i x (omega arith))) (All-push P (take c.loop-i.i xs) _ c.loop-i.invariant (subst P c.index-passes-i.is (c.if-not-is_going.ensures.going.0 refl)))

pub returns-clause-all : goal.returns-clause-all
returns-clause-all g c =
    let P = λ (p : g.row.P.Denot). IsGoing (g.P.SessionPass.pass p) in
    ((λ _. subst (All P) (take_all c.loop-i.i c.args.passes.now (omega arith)) c.loop-i.invariant), (λ _. refl))
