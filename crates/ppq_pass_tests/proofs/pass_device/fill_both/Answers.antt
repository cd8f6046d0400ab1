use denote.Param.Send.{sendable}
use Rattle.ppq_pass.proofs.ppq_record.pair.Pair.TheSendSync as pair
use Rattle.ppq_outside.proofs.memory_slot.MemSlot.TheSendSync as mem_slot
use Rattle.ppq_pass.proofs.Sends.{pass_sends, shared_syncs}
use Rattle.ppq_pass_tests.proofs.pass_device.fill_both.Goals as goal

-- a pass over slots in memory may be sent
pub join_mut-requires-send-F : goal.join_mut-requires-send-F
join_mut-requires-send-F g c κs within = let b = c.type_bounds in search (sendable, pass_sends, shared_syncs, mem_slot.the_send, mem_slot.the_sync, pair.the_send, pair.the_sync) depth 20
