use denote.Param.Send.{sendable}
use Rattle.std.proofs.Common.{slice_index_or, subst}
use Rattle.ppq_pass.proofs.Sends.{pass_sends}
use Rattle.ppq_session.specs.Dealing.{Adds, records_for}
use Rattle.ppq_session.proofs.LineParts.{dealt-lines}
use Rattle.ppq_session.proofs.lines.push_lines.Goals as goal

-- a pass may be sent
pub for_each_mut-requires-send-T : goal.for_each_mut-requires-send-T
for_each_mut-requires-send-T g c κs h = let b = c.type_bounds in search (sendable, pass_sends)

pub returns-clause-each : goal.returns-clause-each
returns-clause-each g c =
    let shown = g.S.Slot.shown in
    let olds = c.args.passes.now in
    record {
      count = c.for_each_mut.auto.s;
      each = λ i d h.
          let at = (c.for_each_mut.ensures i d h).1 in
          let mine = records_for i c.args.lines.now in
          subst (λ n. Adds shown mine (slice_index_or olds i d) n) at.left (subst (λ o. Adds shown mine o at.after_call.now) at.argument_is at.call);
    }

pub returns-clause-dealt : goal.returns-clause-dealt
returns-clause-dealt g c = dealt-lines g.S.Slot.shown c.args.lines.now _ _ c.requires.named (returns-clause-each g c)
