use denote.Param.Send.{sendable}
use Rattle.std.proofs.Common.{◌≡◌, All, ◌<◌, length, slice_index_or, sym, ◌∙◌, subst}
use Rattle.std.proofs.lemmas.List.{length-map}
use Rattle.ppq_pass.specs.Passed.{PassHolding}
use Rattle.ppq_session.specs.Dealing.{Adds, EachAdds, records_for}
use Rattle.ppq_session.specs.Limited.{LimitHolding}
use Rattle.ppq_session.specs.Batches.{passes_of}
use Rattle.ppq_session.proofs.Sends.{limit_pass_sends}
use Rattle.ppq_session.proofs.LineParts.{dealt-lines}
use Rattle.ppq_session.proofs.Mapped.{each-mapped, same-mapped}
use Rattle.ppq_session.proofs.lines.push_limited.Goals as goal

-- a pass may be sent
pub for_each_mut-requires-send-T : goal.for_each_mut-requires-send-T
for_each_mut-requires-send-T g c κs h = let b = c.type_bounds in search (sendable, limit_pass_sends)

pub returns : goal.returns
returns g c =
    let shown = g.S.Slot.shown in
    let lines = c.args.lines.now in
    let olds = c.args.passes.now in
    let news = c.for_each_mut.new.s in
    let same : length news ≡ length olds = c.for_each_mut.auto.s in
    let pass_of : LimitHolding g.row.S.Denot g.row.R.Denot → PassHolding g.row.S.Denot g.row.R.Denot = λ p. p.pass in
    let each : EachAdds shown (λ pass. records_for pass lines) (passes_of olds) (passes_of news) =
    record {
      count = length-map news pass_of ∙ same ∙ sym (length-map olds pass_of);
      each = each-mapped pass_of (λ i o n. Adds shown (records_for i lines) o n) olds news same
          (λ i d h.
          let at = (c.for_each_mut.ensures i d h).1 in
          let mine = records_for i lines in
          subst (λ n. Adds shown mine (slice_index_or olds i d).pass (pass_of n)) at.left (subst (λ o. Adds shown mine (pass_of o) at.after_call.now.pass) at.argument_is at.call.0));
    }
    in
    record {
      dealt = dealt-lines shown lines (passes_of olds) (passes_of news) (subst (λ n. All (λ line. line.pass < n) lines) (sym (length-map olds pass_of)) c.requires.named) each;
      each = each;
      limits = same-mapped (λ p. p.limit) olds news same
          (λ i d h.
          let at = (c.for_each_mut.ensures i d h).1 in
          subst (λ (n : LimitHolding g.row.S.Denot g.row.R.Denot). n.limit ≡ (slice_index_or olds i d).limit) at.left (subst (λ (o : LimitHolding g.row.S.Denot g.row.R.Denot). at.after_call.now.limit ≡ o.limit) at.argument_is at.call.1));
    }
