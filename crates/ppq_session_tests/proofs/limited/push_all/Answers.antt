use denote.Param.Send.{sendable}
use Rattle.std.proofs.Common.{◌≡◌, ◌∙◌, length, ap, sym, arith}
use Rattle.ppq_session.proofs.ppq_record.pair.Pair.TheSendSync as pair
use Rattle.ppq_outside.proofs.memory_slot.MemSlot.TheSendSync as mem_slot
use Rattle.ppq_session.proofs.Sends.{limit_pass_sends}
use Rattle.ppq_session_tests.proofs.limited.push_all.Goals as goal

-- a pass may be sent
pub for_each_mut-requires-send-T : goal.for_each_mut-requires-send-T
for_each_mut-requires-send-T g c κs h = let b = c.type_bounds in search (sendable, limit_pass_sends, mem_slot.the_send, mem_slot.the_sync, pair.the_send, pair.the_sync) depth 20

pub returns-clause-keys : goal.returns-clause-keys
returns-clause-keys g c key all i d h =
    let same : length c.for_each_mut.new.s ≡ length c.args.passes.now = c.for_each_mut.auto.s in
    let at = (c.for_each_mut.ensures i d (omega (arith, h, same))).1 in
    sym (ap (λ p. p.pass.key) at.left) ∙ at.call.0 ∙ ap (λ p. p.pass.key) at.argument_is ∙ all i d (omega (arith, h, same))

pub returns-clause-limits : goal.returns-clause-limits
returns-clause-limits g c limit all i d h =
    let same : length c.for_each_mut.new.s ≡ length c.args.passes.now = c.for_each_mut.auto.s in
    let at = (c.for_each_mut.ensures i d (omega (arith, h, same))).1 in
    sym (ap (λ p. p.limit) at.left) ∙ at.call.1 ∙ ap (λ p. p.limit) at.argument_is ∙ all i d (omega (arith, h, same))
