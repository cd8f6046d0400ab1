use Rattle.std.proofs.Common.{reverse, sym, subst}
use Rattle.std.proofs.lemmas.List.{map-id}
use Rattle.ppq_session.specs.Apart.{IsJoined}
use Rattle.ppq_session.specs.Bringing.{MayBring, BroughtAll}
use Rattle.ppq_session.specs.Ends.{SessionEnded}
use Rattle.std.specs.Prelude.{None}
use Rattle.ppq_session.proofs.Fronted.{bulk_can, bulk_stays}
use Rattle.ppq_session.proofs.Together.{may_bring}
use Rattle.ppq_session.proofs.end.bulk_end.Given as given
use Rattle.ppq_session.proofs.end.bulk_end.Goals as goal

joined : (g : given.Over) (c : goal.After-bring_all g) → IsJoined g.S.Slot.shown g.R.Ord.cmp g.R.Record.record_of g.R.Record.WIDTH c.args.shared c.into_parts-parts.result 0 None c.args.passes.items c.bring_all.new.parts
joined g c =
    let is = c.into_parts-parts.ensures in
    let q = c.into_parts-parts.result in
    record {
      can = bulk_can g.S.Slot.shown g.R.Ord.cmp g.R.Record.record_of g.R.Record.WIDTH q is.whole c.args.b is.shows c.args.passes.items c.requires.of c.args.shared c.requires.shared;
      came = subst (λ l. BroughtAll g.S.Slot.shown g.R.Record.record_of g.R.Record.WIDTH q.sizes g.R.Ord.cmp (reverse l) q c.bring_all.new.parts) (map-id c.args.passes.items) c.bring_all.ensures.brought;
    }

pub bring_all-requires-after_bounds : goal.bring_all-requires-after_bounds
bring_all-requires-after_bounds g c = λ κs bounds.
    let q = c.into_parts-parts.result in
    let is = c.into_parts-parts.ensures in
    let can = bulk_can g.S.Slot.shown g.R.Ord.cmp g.R.Record.record_of g.R.Record.WIDTH q is.whole c.args.b is.shows c.args.passes.items c.requires.of c.args.shared c.requires.shared in
    subst (MayBring c.args.shared q) (sym (map-id c.args.passes.items)) (may_bring g.S.Slot.shown g.R.Record.WIDTH c.args.shared q None c.args.passes.items can.back)

pub end_joined-requires-after_bounds : goal.end_joined-requires-after_bounds
end_joined-requires-after_bounds g c = λ κs bounds. (c.into_parts-parts.result, c.args.passes.items, joined g c)

pub returns : goal.returns
returns g c =
    let is = c.into_parts-parts.ensures in
    let shown = g.S.Slot.shown in
    let q = c.into_parts-parts.result in
    let ended = c.end_joined.ensures q c.args.passes.items (joined g c.before) in
    subst (λ stay. SessionEnded shown stay c.args.passes.items c.end_joined.result.0 c.end_joined.result.1) (bulk_stays shown g.R.Ord.cmp g.R.Record.record_of g.R.Record.WIDTH q is.whole c.args.b is.shows) ended
