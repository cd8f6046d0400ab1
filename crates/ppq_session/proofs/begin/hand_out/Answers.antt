use Rattle.std.proofs.Common.{◌≡◌, ℕ, sym, ap, ◌∙◌, subst, arith}
use Rattle.ppq_pass.specs.ppq_pool.Seats.{count_of}
use Rattle.ppq_queue.specs.Holding.{Holding}
use Rattle.ppq_session.specs.Outfits.{ServeWorkers}
use Rattle.ppq_session.specs.declared.fault.BeginFault.TheVariants.{Memory}
use Rattle.ppq_session.proofs.Opening.{opens, whole_again, shows_again}
use Rattle.ppq_session.proofs.begin.hand_out.Goals as goal

pub make_stores-requires : goal.make_stores-requires
make_stores-requires g c = c.into_parts-parts.ensures.whole.queue.budget

pub from_parts-requires-after_bounds : goal.from_parts-requires-after_bounds
from_parts-requires-after_bounds g c κs bounds = c.into_parts-parts.ensures.whole

pub returns-in_default-clause-back : goal.returns-in_default-clause-back
returns-in_default-clause-back g c = ap (λ (q : Holding g.row.R.Denot). (q, Memory)) (c.from_parts.ensures ∙ c.into_parts-parts.ensures.shows)

pub share-requires-clause-slots : goal.share-requires-clause-slots
share-requires-clause-slots g c =
    record { none = c.in-Ok.ensures.no_slot; room = omega (arith, c.in-Ok.ensures.slots_room, c.free_slots-free.ensures); few = omega (arith, c.free_slots-free.ensures) }

pub share-requires-clause-buffers : goal.share-requires-clause-buffers
share-requires-clause-buffers g c =
    record { none = c.in-Ok.ensures.no_buffer; room = omega (arith, c.in-Ok.ensures.buffers_room, c.idle_buffers-idle.ensures); few = omega (arith, c.idle_buffers-idle.ensures) }

pub deal_out-requires-clause-opened : goal.deal_out-requires-clause-opened
deal_out-requires-clause-opened g c κs bounds =
    let is = c.into_parts-parts.ensures in
    let shared = c.in-Ok-share.ensures in
    (c.args.q, opens g.S.Slot.shown g.R.Ord.cmp g.R.Record.record_of g.R.Record.WIDTH c.into_parts-parts.result c.args.q is.shows is.whole c.requires.sound c.requires.emptied c.share.new.supply c.in-Ok-share.session shared.bare shared.session)

pub deal_out-requires-clause-serve : goal.deal_out-requires-clause-serve
deal_out-requires-clause-serve g c κs bounds =
    let first = c.in-Ok-share.ensures.session in
    let stores = c.in-Ok.stores in
    let count : count_of c.in-Ok-share.session.pool_seat.pool ≡ c.idle_buffers-idle.result = ap count_of first.pool.pool_is ∙ first.pool.count_is ∙ sym c.idle_buffers-idle.ensures in
    subst (λ (n : ℕ). ServeWorkers c.into_parts-parts.result.sizes n stores.outfits.items stores.passes stores.brought) (sym count) c.in-Ok.ensures.serve

pub from_parts-requires-in-Err-after_bounds : goal.from_parts-requires-in-Err-after_bounds
from_parts-requires-in-Err-after_bounds g c κs bounds =
    let is = c.into_parts-parts.ensures in
    whole_again g.S.Slot.shown g.R.Ord.cmp g.R.Record.record_of g.R.Record.WIDTH c.into_parts-parts.result c.args.q is.shows is.whole c.share.new.supply c.in-Err.ensures.back

pub returns-in-Err-clause-back : goal.returns-in-Err-clause-back
returns-in-Err-clause-back g c =
    let shows = shows_again g.S.Slot.shown g.R.Ord.cmp g.R.Record.record_of g.R.Record.WIDTH c.into_parts-parts.result c.args.q c.into_parts-parts.ensures.shows c.share.new.supply c.in-Err.ensures.back in
    ap (λ (q : Holding g.row.R.Denot). (q, Memory)) (c.from_parts-in-Err.ensures ∙ shows)

pub returns-in-Ok-share-clause-handed : goal.returns-in-Ok-share-clause-handed
returns-in-Ok-share-clause-handed g c =
    let is = c.into_parts-parts.ensures in
    let shared = c.in-Ok-share.ensures in
    c.deal_out.ensures c.args.q
    (opens g.S.Slot.shown g.R.Ord.cmp g.R.Record.record_of g.R.Record.WIDTH c.into_parts-parts.result c.args.q is.shows is.whole c.requires.sound c.requires.emptied c.share.new.supply c.in-Ok-share.session shared.bare shared.session)
