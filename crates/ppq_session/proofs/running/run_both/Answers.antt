use denote.Param.Send.{shr_send, shr_slice_send, mut_slice_send}
use Rattle.ppq_session.proofs.line.Line.TheSendSync as line
use Rattle.ppq_pass.proofs.Sends.{shared_syncs}
use Rattle.ppq_session.proofs.Sends.{limit_pass_sends, five_send}
use Rattle.ppq_session.proofs.running.run_both.Goals as goal

-- what the thread of the passes takes may be sent: the runtime, the gate, what the passes share, the lines and the passes
pub join_mut-requires-send-F : goal.join_mut-requires-send-F
join_mut-requires-send-F g c κs within =
    let b = c.type_bounds in search (five_send, shr_send, shr_slice_send, mut_slice_send, shared_syncs, line.the_sync, limit_pass_sends) depth 10
