use Rattle.std.proofs.Common.{◌≡◌, ◌+◌}
use Rattle.ppq_queue.proofs.berths.make_buffers.Given as goal

abbrev pub invariant-loop-made : goal.invariant-loop-made
invariant-loop-made g l = record {
  stock : l.supply ≡ record l.fn.supply { sure_buffers = l.supply.sure_buffers; buffer_room = l.supply.buffer_room };
  sum : l.supply.sure_buffers + l.supply.buffer_room ≡ l.fn.supply.sure_buffers + l.fn.supply.buffer_room;
  given : l.supply.buffer_room + l._made ≡ l.fn.supply.buffer_room;
}
