use Rattle.std.proofs.Common.{◌≡◌, ◌+◌, ◌*◌, ◌++◌, length, reverse, All}
use Rattle.ppq_pass.specs.ppq_array.Owner.{HasSlot, slots_shown}
use Rattle.ppq_queue.specs.Slots.{with_slots}
use Rattle.ppq_session.proofs.slots.put_last.Given as goal

abbrev pub invariant-putting : goal.invariant-putting
invariant-putting g l = record {
  kept : l.supply.kept ++ slots_shown g.S.Slot.shown (reverse l.slots.items) ≡ l.fn.supply.kept ++ slots_shown g.S.Slot.shown (reverse l.fn.slots.items);
  stock : l.supply ≡ with_slots l.fn.supply l.supply.kept l.supply.slot_room;
  room : l.supply.slot_room + length l.fn.slots.items ≡ l.fn.supply.slot_room + length l.slots.items;
  sizes : All (HasSlot g.S.Slot.shown (l.fn.supply.block * g.R.Record.WIDTH)) l.slots.items;
}

abbrev pub decreases-putting : goal.decreases-putting
decreases-putting g l = length l.slots.items
