use Rattle.std.proofs.Common.{subst}
use Rattle.ppq_session.specs.Apart.{IsJoined}
use Rattle.ppq_session.specs.Ends.{SessionEnded}
use Rattle.ppq_session.specs.Limited.{passes_of}
use Rattle.ppq_session.proofs.Fronted.{can_room, front_back, front_can, front_stays}
use Rattle.ppq_session.proofs.Together.{may_bring}
use Rattle.ppq_session.proofs.end_limit.limit_end.Given as given
use Rattle.ppq_session.proofs.end_limit.limit_end.Goals as goal

pub with_room-parts-requires-after_bounds : goal.with_room-parts-requires-after_bounds
with_room-parts-requires-after_bounds g c = λ κs bounds.
    let r = c.into_parts-parts.result in
    (r.1, can_room g.S.Slot.shown g.R.Ord.cmp g.R.Record.record_of g.R.Record.WIDTH r.0 r.1 r.2 c.args.front c.into_parts-parts.ensures)

pub bring_all-requires-after_bounds : goal.bring_all-requires-after_bounds
bring_all-requires-after_bounds g c = λ κs bounds.
    let r = c.into_parts-parts.result in
    let room = c.with_room-parts in
    let back = front_back g.S.Slot.shown g.R.Ord.cmp g.R.Record.record_of g.R.Record.WIDTH r.0 r.1 r.2 c.args.front c.into_parts-parts.ensures room.result room.ensures c.args.passes.items c.requires.of c.args.shared c.requires.shared in
    may_bring g.S.Slot.shown g.R.Record.WIDTH c.args.shared room.result r.2 (passes_of c.args.passes.items) back

joined : (g : given.Over) (c : goal.After-bring_all g) → IsJoined g.S.Slot.shown g.R.Ord.cmp g.R.Record.record_of g.R.Record.WIDTH c.args.shared c.with_room-parts.result c.into_parts-parts.result.1 c.into_parts-parts.result.2 (passes_of c.args.passes.items) c.bring_all.new.parts
joined g c =
    let r = c.into_parts-parts.result in
    let room = c.with_room-parts in
    record {
      can = front_can g.S.Slot.shown g.R.Ord.cmp g.R.Record.record_of g.R.Record.WIDTH r.0 r.1 r.2 c.args.front c.into_parts-parts.ensures room.result room.ensures c.args.passes.items c.requires.of c.args.shared c.requires.shared c.record_laws.ensures.order c.bring_all.ensures.limits;
      came = c.bring_all.ensures.brought;
    }

pub end_joined-requires-after_bounds : goal.end_joined-requires-after_bounds
end_joined-requires-after_bounds g c = λ κs bounds. (c.with_room-parts.result, passes_of c.args.passes.items, joined g c)

pub returns : goal.returns
returns g c =
    let r = c.into_parts-parts.result in
    let room = c.with_room-parts in
    let ended = c.end_joined.ensures room.result (passes_of c.args.passes.items) (joined g c.before) in
    subst (λ stay. SessionEnded g.S.Slot.shown stay (passes_of c.args.passes.items) c.end_joined.result.0 c.end_joined.result.1)
    (front_stays g.S.Slot.shown g.R.Ord.cmp g.R.Record.record_of g.R.Record.WIDTH r.0 r.1 r.2 c.args.front c.into_parts-parts.ensures room.result room.ensures) ended
