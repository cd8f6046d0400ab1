use Rattle.std.proofs.Common.{◌≡◌, ◌+◌, ◌++◌, length, reverse}
use Rattle.std.specs.Prelude.{vec_capacity}
use Rattle.ppq_session.proofs.moving.move_all.Given as goal

abbrev pub invariant-moving : goal.invariant-moving
invariant-moving g l = record {
  items : l.to.items ++ reverse l.from.items ≡ l.fn.to.items ++ reverse l.fn.from.items;
  room : length l.to.items + length l.from.items ≡ length l.fn.to.items + length l.fn.from.items;
  capacity : vec_capacity l.to ≡ vec_capacity l.fn.to;
}

abbrev pub decreases-moving : goal.decreases-moving
decreases-moving g l = length l.from.items
