use Rattle.std.proofs.Common.{sym, subst}
use Rattle.ppq_session.specs.Asks.{removed_with}
use Rattle.ppq_session.specs.Answering.{KeepsFront}
use Rattle.ppq_session.specs.declared.ask.Ask.{Ask}
use Rattle.ppq_session.proofs.Answered.{kept-pop, kept-top}
use Rattle.ppq_session.proofs.answering.answer_one.Goals as goal

pub returns-in-Top-clause-kept : goal.returns-in-Top-clause-kept
returns-in-Top-clause-kept g c =
    let e = c.top.ensures in
    subst (λ (ask : Ask). KeepsFront (removed_with ask c.top.result) c.args.front.now c.top.new.self) (sym c.in-Top.is) (kept-top c.args.front.now c.top.new.self e.slots e.tells e.writes e.rest c.top.result)

pub returns-in-Pop-clause-kept : goal.returns-in-Pop-clause-kept
returns-in-Pop-clause-kept g c =
    let e = c.pop.ensures in
    subst (λ (ask : Ask). KeepsFront (removed_with ask c.pop.result) c.args.front.now c.pop.new.self) (sym c.in-Pop.is) (kept-pop c.args.front.now c.pop.new.self e.slots e.tells e.writes c.pop.result e.popped e.refused e.total e.rest)
