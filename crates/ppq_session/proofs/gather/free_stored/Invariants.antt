use Rattle.std.proofs.Common.{◌≡◌, ℕ, ◌+◌, ◌*◌, length, sum_by, All}
use Rattle.ppq_pass.specs.ppq_outside.Shown.{Shown}
use Rattle.ppq_pass.specs.ppq_array.Owner.{HasSlot, slots_shown}
use Rattle.ppq_queue.specs.Slots.{with_slots}
use Rattle.ppq_session.proofs.gather.free_stored.Given as goal

abbrev pub invariant-freeing : goal.invariant-freeing
invariant-freeing g l = record {
  sums : (f : Shown → ℕ) → sum_by f l.supply.kept + sum_by f (slots_shown g.S.Slot.shown l.array.stored) ≡ sum_by f l.fn.supply.kept + sum_by f (slots_shown g.S.Slot.shown l.fn.array.stored);
  stock : l.supply ≡ with_slots l.fn.supply l.supply.kept l.supply.slot_room;
  room : l.supply.slot_room + length l.fn.array.stored ≡ l.fn.supply.slot_room + length l.array.stored;
  sizes : All (HasSlot g.S.Slot.shown (l.fn.supply.block * g.R.Record.WIDTH)) l.array.stored;
}

abbrev pub decreases-freeing : goal.decreases-freeing
decreases-freeing g l = length l.array.stored
