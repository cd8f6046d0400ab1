use Rattle.std.proofs.Common.{◌<◌, ◌∙◌, sym, ap, subst, arith}
use Rattle.ppq_pool.proofs.Steps.{splits}
use Rattle.ppq_pool.proofs.pool.Pool.split.Goals as goal

pub split_seat-new-requires : goal.split_seat-new-requires
split_seat-new-requires g c = (
  ap (λ k. k.pool) c.seat.view_is ∙ c.requires.pool ∙ sym c.self.view_is,
  omega (arith, c.self.invariant.0, c.self.invariant.1),
  splits _ _ _ c.seat.inside.seat.me.0 (subst (λ h. 1 < h.shares) (sym (ap (λ k. k.hand) c.seat.view_is)) c.requires.shares),
)
