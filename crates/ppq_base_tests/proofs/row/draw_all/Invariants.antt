use Rattle.std.proofs.Common.{◌≡◌}
use Rattle.ppq_row.specs.Seats.{IsSeatOf}
use Rattle.ppq_base_tests.proofs.row.draw_all.Given as goal

abbrev pub invariant-loop : goal.invariant-loop
invariant-loop g l = IsSeatOf l.row l.seat × (l.seat.hand.shares ≡ l.initial.seat.hand.shares)
