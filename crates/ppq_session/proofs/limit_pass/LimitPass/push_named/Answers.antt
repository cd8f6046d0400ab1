use Rattle.std.proofs.Common.{sym, subst}
use Rattle.ppq_session.specs.Batches.{AreAbove}
use Rattle.ppq_session.proofs.LineParts.{none_below-for}
use Rattle.ppq_session.proofs.limit_pass.LimitPass.push_named.Goals as goal

pub invariant_of-self : goal.invariant_of-self
invariant_of-self g c =
    let s = c.self.inside in
    c.push_named.ensures.limits s.limit (none_below-for g.R.Ord.cmp s.limit c.args.number c.args.lines.now (subst (λ p. AreAbove g.R.Ord.cmp p.limit c.args.lines.now) (sym c.self.view_is) c.requires.above)) c.self.invariant
