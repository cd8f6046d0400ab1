use Rattle.std.specs.Prelude.{vec_capacity}
use Rattle.std.proofs.Common.{◌≡◌, ◌+◌, ◌*◌, ◌++◌, All, length, map, reverse}
use Rattle.ppq_extract.specs.ppq_array.Supply.{IsSlot}
use Rattle.ppq_queue.specs.Slots.{with_slots}
use Rattle.ppq_queue.proofs.berths.berth_last.Given as goal

abbrev pub invariant-loop-slot : goal.invariant-loop-slot
invariant-loop-slot g l = record {
  kept : l.supply.kept ++ map g.S.Slot.shown (reverse l.slots.items) ≡ map g.S.Slot.shown (reverse l.fn.slots.items);
  stock : l.supply ≡ with_slots l.fn.supply l.supply.kept l.supply.slot_room;
  room : l.supply.slot_room + length l.fn.slots.items ≡ l.fn.supply.slot_room + length l.slots.items;
  slots_are : All (λ s. IsSlot (l.fn.supply.block * g.R.Record.WIDTH) (g.S.Slot.shown s)) l.slots.items;
  capacity : vec_capacity l.slots ≡ vec_capacity l.fn.slots;
}

abbrev pub decreases-loop-slot : goal.decreases-loop-slot
decreases-loop-slot g l = length l.slots.items
