use Rattle.std.proofs.Common.{All, take, subst, sym, arith}
use Rattle.std.proofs.lemmas.List.{take_all, take_more}
use Rattle.std.proofs.lemmas.List.Elements.{All-push}
use Rattle.ppq_session.specs.Limited.{LimitHolding, IsLimited}
use Rattle.ppq_session.specs.LimitSession.{limited_bag}
use Rattle.ppq_session.proofs.LimitSessions.{passes-above}
use Rattle.ppq_session.proofs.front_laws.passes_stand_back.Goals as goal

pub loop-i-preserved : goal.loop-i-preserved
loop-i-preserved g c =
    let P = λ (p : LimitHolding g.row.S.Denot g.row.R.Denot). IsLimited g.S.Slot.shown g.R.Ord.cmp p.limit p.pass in
    let xs = c.args.passes.now in
    let x = c.index-passes-i.result in
    subst (All P) (sym (take_more xs c.loop-i.i x (omega arith))) (All-push P (take c.loop-i.i xs) _ c.loop-i.invariant (subst P c.index-passes-i.is c.known-in-loop-i.ensures.limited))

pub returns : goal.returns
returns g c tell sound =
    let front = c.args.front.now in
    let passes = c.args.passes.now in
    let P = λ (p : LimitHolding g.row.S.Denot g.row.R.Denot). IsLimited g.S.Slot.shown g.R.Ord.cmp p.limit p.pass in
    let known : All P passes = subst (All P) (take_all c.loop-i.i passes (omega arith)) c.loop-i.invariant in
    c.high_records_stand_back.ensures front.limit front.bag (limited_bag passes) (passes-above g.S.Slot.shown g.R.Ord.cmp front passes c.requires known (c.known.ensures.items tell) sound)
