use Rattle.std.proofs.Common.{◌≡◌, ◌∙◌, length, slice_index_or, ap, subst}
use denote.Param.Send.{sendable}
use Rattle.std.specs.Fork.{slice_chunk}
use Rattle.std.specs.Int.{div_ceil}
use Rattle.ppq_pass.proofs.Sends.{pass_sends}
use Rattle.ppq_session.specs.Dealing.{Adds, part_for}
use Rattle.ppq_session.proofs.Adding.{dealt-parts}
use Rattle.ppq_session.proofs.dealing.deal.Goals as goal

-- a pass may be sent
pub for_each_mut-requires-send-T : goal.for_each_mut-requires-send-T
for_each_mut-requires-send-T g c κs h = let b = c.type_bounds in search (sendable, pass_sends)

pub returns-clause-each : goal.returns-clause-each
returns-clause-each g c =
    let shown = g.S.Slot.shown in
    let records = g.M.Maker.rest c.args.maker.now in
    let olds = c.args.passes.now in
    let news = c.for_each_mut.new.s in
    let equal : c.div_ceil-part.result ≡ div_ceil (length records) (length olds) = c.div_ceil-part.ensures ∙ ap (λ n. div_ceil n (length olds)) c.left.ensures in
    record {
      count = c.for_each_mut.auto.s;
      each = λ i d h.
          let at = (c.for_each_mut.ensures i d h).1 in
          let chunk = part_for (length olds) records i in
          let call = subst (λ part. Adds shown (slice_chunk records part i) at.argument.now at.after_call.now) equal at.call in
          subst (λ n. Adds shown chunk (slice_index_or olds i d) n) at.left (subst (λ o. Adds shown chunk o at.after_call.now) at.argument_is call);
    }

pub returns-clause-dealt : goal.returns-clause-dealt
returns-clause-dealt g c = dealt-parts g.S.Slot.shown (g.M.Maker.rest c.args.maker.now) _ _ c.requires.may.some (returns-clause-each g c)
