use Rattle.std.proofs.Common.{◌≡◌, ◌+◌, ◌*◌, ◌++◌, length, All}
use Rattle.ppq_pass.specs.ppq_array.Owner.{HasSlot, slots_shown}
use Rattle.ppq_queue.specs.Slots.{with_slots}
use Rattle.ppq_session.proofs.moving.free_all.Given as goal

abbrev pub invariant-freeing : goal.invariant-freeing
invariant-freeing g l = record {
  kept : l.supply.kept ++ slots_shown g.S.Slot.shown l.slots ≡ l.fn.supply.kept ++ slots_shown g.S.Slot.shown l.fn.slots;
  stock : l.supply ≡ with_slots l.fn.supply l.supply.kept l.supply.slot_room;
  room : l.supply.slot_room + length l.fn.slots ≡ l.fn.supply.slot_room + length l.slots;
  sizes : All (HasSlot g.S.Slot.shown (l.fn.supply.block * g.R.Record.WIDTH)) l.slots;
}

abbrev pub decreases-freeing : goal.decreases-freeing
decreases-freeing g l = length l.slots
