use Rattle.std.proofs.Common.{◌≡◌, ◌+◌, ◌++◌, length}
use Rattle.ppq_session.proofs.moving.move_buffers.Given as goal

abbrev pub invariant-moving : goal.invariant-moving
invariant-moving g l = record {
  items : l.to ++ l.from ≡ l.fn.to ++ l.fn.from;
  room : length l.to + length l.from ≡ length l.fn.to + length l.fn.from;
}

abbrev pub decreases-moving : goal.decreases-moving
decreases-moving g l = length l.from
