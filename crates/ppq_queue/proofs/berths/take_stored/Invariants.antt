use Rattle.std.specs.Prelude.{vec_capacity}
use Rattle.std.proofs.Common.{◌≡◌, ℕ, ◌+◌, length, map, sum_by}
use Rattle.ppq_extract.specs.ppq_outside.Shown.{Shown}
use Rattle.ppq_extract.specs.ppq_array.Holdings.{external_slots}
use Rattle.ppq_queue.proofs.berths.take_stored.Given as goal

abbrev pub invariant-loop-array : goal.invariant-loop-array
invariant-loop-array g l = record {
  sums : (f : Shown → ℕ) → sum_by f (map g.S.Slot.shown l.fn.slots.items) + sum_by f (external_slots g.S.Slot.shown l.fn.arrays.items) ≡ sum_by f (map g.S.Slot.shown l.slots.items) + sum_by f (external_slots g.S.Slot.shown l.arrays.items);
  count : length l.slots.items + length (external_slots g.S.Slot.shown l.arrays.items) ≡ length l.fn.slots.items + length (external_slots g.S.Slot.shown l.fn.arrays.items);
  capacity : vec_capacity l.slots ≡ vec_capacity l.fn.slots;
}

abbrev pub decreases-loop-array : goal.decreases-loop-array
decreases-loop-array g l = length l.arrays.items
