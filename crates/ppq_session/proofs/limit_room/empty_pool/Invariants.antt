use Rattle.std.proofs.Common.{◌≡◌, ◌+◌, length}
use Rattle.ppq_queue.specs.Slots.{with_pool}
use Rattle.ppq_session.proofs.limit_room.empty_pool.Given as goal

abbrev pub invariant-emptying : goal.invariant-emptying
invariant-emptying g l = record {
  stock : l.supply ≡ with_pool l.fn.supply l.supply.sure_buffers l.supply.buffer_room;
  room : l.supply.buffer_room + l.supply.sure_buffers ≡ l.fn.supply.buffer_room + l.fn.supply.sure_buffers;
  count : length l.idle + l.supply.sure_buffers ≡ length l.fn.idle + l.fn.supply.sure_buffers;
}

abbrev pub decreases-emptying : goal.decreases-emptying
decreases-emptying g l = l.supply.sure_buffers
