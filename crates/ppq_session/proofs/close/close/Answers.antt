use Rattle.std.proofs.Common.{◌+◌, ◌-◌, ◌*◌, ◌∙◌, All, length, ap, sym, subst, refl, arith, length-drop}
use Rattle.std.proofs.lemmas.List.Elements.{All-drop}
use Rattle.ppq_pass.specs.ppq_array.Owner.{HasSlot}
use Rattle.ppq_queue.specs.Slots.{with_pool}
use Rattle.ppq_session.proofs.close.close.Goals as goal

pub put_slots-requires-clause-room : goal.put_slots-requires-clause-room
put_slots-requires-clause-room g c =
    let hand = c.args.parts.row_seat.hand in
    omega (arith, ap length c.close.ensures.left, length-drop (length hand.places) hand.items, c.requires.few_slots)

pub put_slots-requires-clause-sizes : goal.put_slots-requires-clause-sizes
put_slots-requires-clause-sizes g c =
    let hand = c.args.parts.row_seat.hand in
    let fits = HasSlot {S = g.row.S.Denot} {R = g.row.R.Denot} g.S.Slot.shown (c.args.parts.supply.block * g.R.Record.WIDTH) in
    subst (All fits) (sym c.close.ensures.left) (All-drop fits (length hand.places) hand.items c.requires.bytes)

pub put_buffers-requires-clause-room : goal.put_buffers-requires-clause-room
put_buffers-requires-clause-room g c = omega (arith, c.close-2.ensures.count, c.requires.few_buffers, ap (λ s. s.buffer_room) c.put_slots.ensures.stock, ap (λ p. p.slots) c.requires.pool)

pub put_buffers-requires-clause-shape : goal.put_buffers-requires-clause-shape
put_buffers-requires-clause-shape g c k d h =
    c.close-2.ensures.shape k d h ∙ c.requires.shape (omega (arith, h, c.close-2.ensures.count, ap (λ p. p.slots) c.requires.pool)) ∙ sym (ap (λ s. s.block) c.put_slots.ensures.stock)

pub returns-clause-closed : goal.returns-clause-closed
returns-clause-closed g c =
    let given = length c.close-2.result.items in
    record {
      left = c.close.result.items;
      left_is = c.close.ensures.left;
      each_once = c.close.ensures.each_once;
      noted = c.close.ensures.noted;
      given = given;
      given_are = omega (arith, c.close-2.ensures.count, ap (λ p. p.slots) c.requires.pool);
      supply = c.put_buffers.ensures.stock ∙ ap (λ s. with_pool s (s.sure_buffers + given) (s.buffer_room - given)) c.put_slots.ensures.stock;
      rest = refl;
    }
