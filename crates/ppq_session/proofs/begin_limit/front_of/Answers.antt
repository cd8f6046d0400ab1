use Rattle.std.proofs.Common.{◌∙◌, ap, arith}
use Rattle.ppq_session.proofs.Fronted.{front_is}
use Rattle.ppq_session.proofs.begin_limit.front_of.Goals as goal

pub of-requires-after_bounds : goal.of-requires-after_bounds
of-requires-after_bounds g c κs bounds =
    let is = c.into_parts.ensures in
    let r = c.requires in
    record {
      bulk = is.whole;
      all = omega (arith, is.whole.counted, ap (λ b. b.begun) is.shows, r.none);
      few = omega (arith, ap (λ b. b.runs) is.shows, r.runs);
      limited = ap (λ b. b.limited) is.shows ∙ r.limited;
    }

pub returns : goal.returns
returns g c =
    let is = c.into_parts.ensures in
    front_is g.S.Slot.shown g.R.Ord.cmp g.R.Record.record_of g.R.Record.WIDTH c.into_parts.result is.whole c.args.limit c.args.bulk c.of.result is.shows c.of.ensures
