use Rattle.std.proofs.Common.{◌≡◌}
use Rattle.ppq_pool.specs.Seats.{IsSeatOf}
use Rattle.ppq_base_tests.proofs.pool.work.Given as goal

abbrev pub invariant-loop : goal.invariant-loop
invariant-loop l = IsSeatOf l.pool l.seat × (l.seat.hand.shares ≡ l.initial.seat.hand.shares)
