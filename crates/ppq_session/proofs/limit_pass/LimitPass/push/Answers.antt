use Rattle.std.proofs.Common.{◌≡◌, ◌∷◌, false, sym, subst}
use Rattle.std.specs.Prelude.{OnOk}
use Rattle.ppq_pass.specs.ppq_record.Bag.{IsSameBag}
use Rattle.ppq_pass.specs.Passed.{PassTells, KeptSlots, CountsPassPush}
use Rattle.ppq_pass.specs.ppq_record.Order.{is_before}
use Rattle.ppq_session.proofs.LimitSessions.{limited-pushed}
use Rattle.ppq_session.proofs.limit_pass.LimitPass.push.Goals as goal

pub invariant_of-self : goal.invariant_of-self
invariant_of-self g c =
    let s = c.self.inside in
    let e = c.push.ensures in
    let high : is_before g.R.Ord.cmp c.args.r s.limit ≡ false = subst (λ p. is_before g.R.Ord.cmp c.args.r p.limit ≡ false) (sym c.self.view_is) c.requires.limit in
    limited-pushed g.S.Slot.shown g.R.Ord.cmp s.limit s.pass c.push.new.self c.args.r c.self.invariant high e.key c.push.result e.added e.refused e.latched e.tells

pub returns-clause-added : goal.returns-clause-added
returns-clause-added g c = subst (λ p. OnOk c.push.result (PassTells g.S.Slot.shown p.pass → IsSameBag c.push.new.self.bag (c.args.r ∷ p.pass.bag))) c.self.view_is c.push.ensures.added

pub returns-clause-tells : goal.returns-clause-tells
returns-clause-tells g c = subst (λ p. PassTells g.S.Slot.shown p.pass → PassTells g.S.Slot.shown c.push.new.self) c.self.view_is c.push.ensures.tells

pub returns-clause-kept : goal.returns-clause-kept
returns-clause-kept g c = subst (λ p. KeptSlots p.pass c.push.new.self) c.self.view_is c.push.ensures.kept

pub returns-clause-counted : goal.returns-clause-counted
returns-clause-counted g c = subst (λ p. CountsPassPush p.pass c.push.new.self c.push.result) c.self.view_is c.push.ensures.counted
