use Rattle.std.proofs.Common.{◌≡◌}
use Rattle.std.specs.Slots.{slots_items, slots_filled, slots_len}
use Rattle.ppq_table.specs.Places.{Unread}
use Rattle.ppq_table.proofs.closing.skip.Given as goal

abbrev pub invariant-loop-i : goal.invariant-loop-i
invariant-loop-i g l = record {
  items : slots_items l.closed.slots ≡ slots_items l.initial.closed.slots;
  count : slots_len l.closed.slots ≡ slots_len l.initial.closed.slots;
  unread : Unread (slots_filled l.closed.slots) l.i l.end;
}
