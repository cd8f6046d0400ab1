use Rattle.std.proofs.Common.{◌≡◌, ℕ, ◌+◌, ◌*◌, length, sum_by, All}
use Rattle.ppq_pass.specs.ppq_outside.Shown.{Shown}
use Rattle.ppq_pass.specs.ppq_array.Holdings.{HasSlots, external_buffers, external_slots}
use Rattle.ppq_queue.specs.Slots.{with_slots}
use Rattle.ppq_session.proofs.gather.empty_arrays.Given as goal

abbrev pub invariant-emptying : goal.invariant-emptying
invariant-emptying g l = record {
  sums : (f : Shown → ℕ) → sum_by f l.supply.kept + sum_by f (external_slots g.S.Slot.shown l.arrays.items) ≡ sum_by f l.fn.supply.kept + sum_by f (external_slots g.S.Slot.shown l.fn.arrays.items);
  stock : l.supply ≡ with_slots l.fn.supply l.supply.kept l.supply.slot_room;
  room : l.supply.slot_room + length (external_slots g.S.Slot.shown l.fn.arrays.items) ≡ l.fn.supply.slot_room + length (external_slots g.S.Slot.shown l.arrays.items);
  sizes : All (HasSlots g.S.Slot.shown (l.fn.supply.block * g.R.Record.WIDTH)) l.arrays.items;
  idle : length l.idle + external_buffers l.arrays.items ≡ length l.fn.idle + external_buffers l.fn.arrays.items;
}

abbrev pub decreases-emptying : goal.decreases-emptying
decreases-emptying g l = length l.arrays.items
