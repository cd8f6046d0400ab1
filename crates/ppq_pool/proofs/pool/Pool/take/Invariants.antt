use Rattle.std.proofs.Common.{◌≡◌}
use Rattle.ppq_pool.specs.Seats.{IsSeatOf, FoundHeld}
use Rattle.ppq_pool.proofs.pool.Pool.take.Given as goal

abbrev pub invariant-loop-number : goal.invariant-loop-number
invariant-loop-number g l = record {
  pool : IsSeatOf l.self l.seat;
  pass : l.seat.pass ≡ l.initial.seat.pass;
  found : FoundHeld l.number l.initial.seat.hand l.seat.hand;
}
