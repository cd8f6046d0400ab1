use Rattle.std.specs.Prelude.{vec_capacity}
use Rattle.std.proofs.Common.{◌≡◌, ℕ, ◌+◌, length, map, sum_by}
use Rattle.ppq_extract.specs.ppq_outside.Shown.{Shown}
use Rattle.ppq_extract.specs.ppq_array.Owner.{slots_shown}
use Rattle.ppq_queue.proofs.berths.give_up_all.Given as goal

abbrev pub invariant-loop-berth : goal.invariant-loop-berth
invariant-loop-berth g l = record {
  sums : (f : Shown → ℕ) → sum_by f (map g.S.Slot.shown l.fn.slots.items) + sum_by f (slots_shown g.S.Slot.shown l.fn.array.stored) ≡ sum_by f (map g.S.Slot.shown l.slots.items) + sum_by f (slots_shown g.S.Slot.shown l.array.stored);
  count : length l.slots.items + length l.array.stored ≡ length l.fn.slots.items + length l.fn.array.stored;
  capacity : vec_capacity l.slots ≡ vec_capacity l.fn.slots;
}

abbrev pub decreases-loop-berth : goal.decreases-loop-berth
decreases-loop-berth g l = length l.array.stored
