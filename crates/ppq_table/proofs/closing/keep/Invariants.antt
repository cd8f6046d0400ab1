use Rattle.std.proofs.Common.{◌≡◌, ◌≤◌, take, drop, vec_len, vec_capacity}
use Rattle.std.specs.Slots.{slots_items, slots_filled, slots_len}
use Rattle.ppq_table.specs.Places.{items_in, Unread}
use Rattle.ppq_table.proofs.closing.keep.Given as goal

abbrev pub invariant-loop-i : goal.invariant-loop-i
invariant-loop-i g l = record {
  same : slots_items l.closed.slots ≡ slots_items l.initial.closed.slots;
  count : slots_len l.closed.slots ≡ slots_len l.initial.closed.slots;
  unread : Unread (slots_filled l.closed.slots) l.i l.end;
  few : vec_len l.room ≤ l.i;
  capacity : vec_capacity l.room ≡ vec_capacity l.initial.room;
  items : l.room.items ≡ items_in (drop l.from (take l.i (slots_items l.initial.closed.slots)));
}
