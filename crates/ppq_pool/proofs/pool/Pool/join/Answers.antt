use Rattle.std.proofs.Common.{◌∙◌, sym, ap, arith}
use Rattle.ppq_pool.proofs.Steps.{joins}
use Rattle.ppq_pool.proofs.pool.Pool.join.Goals as goal

pub join_seat-requires : goal.join_seat-requires
join_seat-requires g c = (
  ap (λ k. k.pool) c.seat.view_is ∙ c.requires.pool.0 ∙ sym c.self.view_is,
  ap (λ k. k.pool) c.other.view_is ∙ c.requires.pool.1 ∙ sym c.self.view_is,
  c.other.invariant.bare,
  omega (arith, c.self.invariant.0, c.self.invariant.1),
  joins _ _ _ c.seat.inside.seat.me.0 _ _ c.seat.invariant.part c.other.invariant.part c.seat.invariant.free c.other.invariant.free,
)
