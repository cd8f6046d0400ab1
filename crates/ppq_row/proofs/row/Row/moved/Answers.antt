use Rattle.std.proofs.Common.{◌∙◌, sym, arith}
use Rattle.ppq_row.proofs.Steps.{splits_moved}
use Rattle.ppq_row.proofs.row.Row.moved.Goals as goal

pub split_seat-requires : goal.split_seat-requires
split_seat-requires g c = (c.requires.row ∙ sym c.self.view_is, omega (arith, c.self.invariant.0), splits_moved _ _ _ c.requires.shares)
