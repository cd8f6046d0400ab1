use Rattle.std.proofs.Common.{◌≡◌, false, sym, subst}
use Rattle.ppq_pass.specs.ppq_record.Order.{is_before}
use Rattle.ppq_session.proofs.LimitSessions.{limited-tried}
use Rattle.ppq_session.proofs.limit_pass.LimitPass.try_push.Goals as goal

pub invariant_of-self : goal.invariant_of-self
invariant_of-self g c =
    let s = c.self.inside in
    let high : is_before g.R.Ord.cmp c.args.r s.limit ≡ false = subst (λ p. is_before g.R.Ord.cmp c.args.r p.limit ≡ false) (sym c.self.view_is) c.requires in
    limited-tried g.S.Slot.shown g.R.Ord.cmp s.limit s.pass c.try_push.new.self c.args.r c.self.invariant high c.try_push.result c.try_push.ensures.added c.try_push.ensures.one c.try_push.ensures.same
