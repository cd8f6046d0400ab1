use Rattle.std.proofs.Common.{sym, ap, ◌∙◌, arith, subst, ◌<◌}
use Rattle.ppq_row.proofs.Steps.{joins}
use Rattle.ppq_row.proofs.row.Row.join.Goals as goal

pub join_seat-requires : goal.join_seat-requires
join_seat-requires g c = (
  ap (λ s. s.row) c.seat.view_is ∙ c.requires.row.0 ∙ sym c.self.view_is,
  c.moved-bare.ensures.row ∙ sym c.self.view_is,
  ap (λ m. m.1) c.moved-bare.ensures.moved,
  omega (arith, c.self.invariant.0),
  joins _ _ _ _ _ c.seat.invariant.1 (subst (λ m. 0 < m.0.shares) (sym c.moved-bare.ensures.moved) c.other.invariant.1),
)
