use Rattle.std.proofs.Common.{◌≡◌, length}
use Rattle.std.specs.Prelude.{All}
use Rattle.ppq_merge.specs.Seat.{IsSized}
use Rattle.ppq_merge.proofs.bench.seats_for.Given as goal

abbrev pub invariant-loop-worker : goal.invariant-loop-worker
invariant-loop-worker g l = (length l.seats.items ≡ l._worker) × All (IsSized l.runs) l.seats.items
