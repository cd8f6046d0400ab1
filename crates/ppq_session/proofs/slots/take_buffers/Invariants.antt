use Rattle.std.specs.Prelude.{vec_capacity}
use Rattle.std.proofs.Common.{◌≡◌, ◌+◌, length, All}
use Rattle.ppq_queue.specs.Slots.{with_pool}
use Rattle.ppq_session.proofs.slots.take_buffers.Given as goal

abbrev pub invariant-taking : goal.invariant-taking
invariant-taking g l = record {
  shape : All (λ b. b.buf.block ≡ l.fn.supply.block) l.buffers.items;
  stock : l.supply ≡ with_pool l.fn.supply l.supply.sure_buffers l.supply.buffer_room;
  room : l.supply.buffer_room + l.supply.sure_buffers ≡ l.fn.supply.buffer_room + l.fn.supply.sure_buffers;
  count : length l.buffers.items + l.supply.sure_buffers ≡ length l.fn.buffers.items + l.fn.supply.sure_buffers;
  capacity : vec_capacity l.buffers ≡ vec_capacity l.fn.buffers;
}

abbrev pub decreases-taking : goal.decreases-taking
decreases-taking g l = l.supply.sure_buffers
