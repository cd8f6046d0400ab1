use Rattle.std.specs.Prelude.{vec_capacity}
use Rattle.std.proofs.Common.{◌≡◌, ◌+◌, ◌*◌, ◌++◌, length, All}
use Rattle.ppq_pass.specs.ppq_array.Owner.{HasSlot, slots_shown}
use Rattle.ppq_queue.specs.Slots.{with_slots}
use Rattle.ppq_session.proofs.slots.take_slots.Given as goal

abbrev pub invariant-taking : goal.invariant-taking
invariant-taking g l = record {
  all : slots_shown g.S.Slot.shown l.slots.items ++ l.supply.kept ≡ slots_shown g.S.Slot.shown l.fn.slots.items ++ l.fn.supply.kept;
  sizes : All (HasSlot g.S.Slot.shown (l.fn.supply.block * g.R.Record.WIDTH)) l.slots.items;
  stock : l.supply ≡ with_slots l.fn.supply l.supply.kept l.supply.slot_room;
  room : l.supply.slot_room + length l.supply.kept ≡ l.fn.supply.slot_room + length l.fn.supply.kept;
  count : length l.slots.items + length l.supply.kept ≡ length l.fn.slots.items + length l.fn.supply.kept;
  capacity : vec_capacity l.slots ≡ vec_capacity l.fn.slots;
}

abbrev pub decreases-taking : goal.decreases-taking
decreases-taking g l = length l.supply.kept
