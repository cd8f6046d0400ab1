use Rattle.std.proofs.Common.{◌≡◌, ◌+◌, length, All}
use Rattle.ppq_queue.specs.Slots.{with_pool}
use Rattle.ppq_session.proofs.slots.put_buffers.Given as goal

abbrev pub invariant-putting : goal.invariant-putting
invariant-putting g l = record {
  stock : l.supply ≡ with_pool l.fn.supply l.supply.sure_buffers l.supply.buffer_room;
  sum : l.supply.sure_buffers + l.supply.buffer_room ≡ l.fn.supply.sure_buffers + l.fn.supply.buffer_room;
  room : l.supply.buffer_room + length l.fn.buffers.items ≡ l.fn.supply.buffer_room + length l.buffers.items;
  shape : All (λ b. b.buf.block ≡ l.fn.supply.block) l.buffers.items;
}

abbrev pub decreases-putting : goal.decreases-putting
decreases-putting g l = length l.buffers.items
