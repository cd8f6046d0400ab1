use Rattle.std.specs.Prelude.{vec_capacity}
use Rattle.std.proofs.Common.{◌≡◌, ◌+◌, ◌++◌, length, map}
use Rattle.ppq_queue.proofs.berths.take_kept.Given as goal

abbrev pub invariant-loop-supply : goal.invariant-loop-supply
invariant-loop-supply g l = record {
  all : map g.S.Slot.shown l.slots.items ++ l.supply.kept ≡ map g.S.Slot.shown l.fn.slots.items ++ l.fn.supply.kept;
  count : length l.slots.items + length l.supply.kept ≡ length l.fn.slots.items + length l.fn.supply.kept;
  capacity : vec_capacity l.slots ≡ vec_capacity l.fn.slots;
}

abbrev pub decreases-loop-supply : goal.decreases-loop-supply
decreases-loop-supply g l = length l.supply.kept
