use Rattle.std.proofs.Common.{◌≡◌, ℕ, ◌+◌, ◌*◌, All, length, sym, ap, ◌∙◌, subst, arith}
use Rattle.ppq_pass.specs.ppq_array.Supply.{Stock}
use Rattle.ppq_pass.specs.ppq_array.Owner.{HasSlot, slots_shown}
use Rattle.ppq_queue.specs.Slots.{with_pool}
use Rattle.ppq_session.specs.Shares.{IsFirstPool}
use Rattle.ppq_session.proofs.Emptying.{as_many, put_back, undrawn}
use Rattle.ppq_session.proofs.share.share.Goals as goal

pub make_pool-requires : goal.make_pool-requires
make_pool-requires g c =
    let same = ap (λ (t : Stock). t.sure_buffers) c.in_ok-row.ensures.out in
    record { none = c.requires.buffers.none; room = omega (arith, same, c.requires.buffers.room); few = omega (arith, same, c.requires.buffers.few) }

pub put_slots-requires-clause-room : goal.put_slots-requires-clause-room
put_slots-requires-clause-room g c =
    let row = c.in_ok-row.ensures in
    let hand = c.in_ok-row.row_seat.hand in
    let all = undrawn hand.places hand.items c.close-slots.result.items row.made.undrawn c.close-slots.ensures.left in
    let many = as_many g.S.Slot.shown hand.items c.args.supply.now.kept row.made.items in
    let room : c.make_pool.new.supply.slot_room ≡ c.args.supply.now.slot_room + length c.args.supply.now.kept = ap (λ (t : Stock). t.slot_room) c.in-Err.ensures.back ∙ ap (λ (t : Stock). t.slot_room) row.out in
    omega (arith, ap length all, many, room)

pub put_slots-requires-clause-sizes : goal.put_slots-requires-clause-sizes
put_slots-requires-clause-sizes g c =
    let row = c.in_ok-row.ensures in
    let hand = c.in_ok-row.row_seat.hand in
    let left = c.close-slots.result.items in
    let fits = λ (block : ℕ). HasSlot {S = g.row.S.Denot} {R = g.row.R.Denot} g.S.Slot.shown (block * g.R.Record.WIDTH) in
    let all = undrawn hand.places hand.items left row.made.undrawn c.close-slots.ensures.left in
    let block : c.make_pool.new.supply.block ≡ c.args.supply.now.block = ap (λ (t : Stock). t.block) c.in-Err.ensures.back ∙ ap (λ (t : Stock). t.block) row.out in
    subst (λ (b : ℕ). All (fits b) left) (sym block) (subst (All (fits c.args.supply.now.block)) (sym all) row.made.bytes)

pub returns-in-Ok-clause-session : goal.returns-in-Ok-clause-session
returns-in-Ok-clause-session g c =
    let row = c.in_ok-row.ensures in
    let s = c.in-Ok.pool_seat in
    record { row = row.made; pool = subst (λ (t : Stock). IsFirstPool t.sure_buffers t.block c.in-Ok.pool s) row.out c.in-Ok.ensures.made }

pub returns-in-Ok-clause-bare : goal.returns-in-Ok-clause-bare
returns-in-Ok-clause-bare g c = c.in-Ok.ensures.out ∙ ap (λ (t : Stock). with_pool t 0 (t.buffer_room + t.sure_buffers)) c.in_ok-row.ensures.out

pub returns-in-Err-clause-back : goal.returns-in-Err-clause-back
returns-in-Err-clause-back g c =
    let row = c.in_ok-row.ensures in
    let hand = c.in_ok-row.row_seat.hand in
    let left = c.close-slots.result.items in
    let all = undrawn hand.places hand.items left row.made.undrawn c.close-slots.ensures.left in
    put_back g.S.Slot.shown c.args.supply.now c.make_pool.new.supply c.put_slots.new.supply left (ap (slots_shown g.S.Slot.shown) all ∙ row.made.items) (c.in-Err.ensures.back ∙ row.out) c.put_slots.ensures.stock
