use Rattle.std.proofs.Common.{◌<◌, sym, ap, ◌∙◌, arith, subst}
use Rattle.ppq_row.proofs.Steps.{splits_share}
use Rattle.ppq_row.proofs.row.Row.split.Goals as goal

pub split_seat-new-requires : goal.split_seat-new-requires
split_seat-new-requires g c = (
  ap (λ s. s.row) c.seat.view_is ∙ c.requires.row ∙ sym c.self.view_is,
  omega (arith, c.self.invariant.0),
  splits_share _ _ _ (subst (λ s. 1 < s.hand.shares) (sym c.seat.view_is) c.requires.shares),
)
