use Rattle.std.proofs.Common.{◌-◌, ◌*◌, ◌++◌, ◌∷◌, ◌∙◌, [], All, length, ap, ap₂, sym, subst, arith, append_assoc}
use Rattle.std.proofs.lemmas.List.Elements.{All-tail}
use Rattle.ppq_pass.specs.ppq_array.Owner.{HasSlot, slots_shown}
use Rattle.ppq_queue.specs.Slots.{with_slots}
use Rattle.ppq_session.proofs.moving.free_all.Goals as goal

pub freeing-preserved : goal.freeing-preserved
freeing-preserved g c =
    let shown = g.S.Slot.shown in
    let i = c.freeing.invariant in
    let fn = c.args.supply.now in
    let s = c.freeing.supply in
    let berth = c.in-Some.berth in
    let rest = c.pop_front.new.self in
    let e = c.in-Some.ensures.first in
    let back = c.free_slot.ensures.back in
    let fits = HasSlot {S = g.row.S.Denot} {R = g.row.R.Denot} shown (fn.block * g.R.Record.WIDTH) in
    record {
      kept = ap (λ x. x.kept ++ slots_shown shown rest) back ∙ append_assoc s.kept (shown berth.slot ∷ []) (slots_shown shown rest) ∙ ap (λ l. s.kept ++ slots_shown shown l) (sym e) ∙ i.kept;
      stock = back ∙ ap (λ x. with_slots x (s.kept ++ shown berth.slot ∷ []) (s.slot_room - 1)) i.stock ∙ ap₂ (λ k r. with_slots fn k r) (sym (ap (λ x. x.kept) back)) (sym (ap (λ x. x.slot_room) back));
      room = omega (arith, ap (λ x. x.slot_room) back, ap length e, i.room, c.requires.room);
      sizes = All-tail fits berth rest (subst (λ l. All fits l) e i.sizes);
    }
