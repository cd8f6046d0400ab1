use Rattle.std.proofs.Common.{◌≡◌, ◌*◌, ◌∙◌, All, length, sym, ap, subst, arith}
use Rattle.std.proofs.lemmas.List.Elements.{All-nil}
use Rattle.ppq_pass.specs.ppq_array.Owner.{HasSlot, slots_shown}
use Rattle.ppq_session.proofs.Emptying.{all_kept, as_many}
use Rattle.ppq_session.proofs.share.make_row.Given as given
use Rattle.ppq_session.proofs.share.make_row.Goals as goal

pub take_slots-requires-clause-room : goal.take_slots-requires-clause-room
take_slots-requires-clause-room g c = omega (arith, ap length c.requires.none, c.requires.room)

pub take_slots-requires-clause-sizes : goal.take_slots-requires-clause-sizes
take_slots-requires-clause-sizes g c =
    let fits = HasSlot g.S.Slot.shown (c.args.supply.now.block * g.R.Record.WIDTH) in
    subst (All fits) (sym c.requires.none) (All-nil fits)

kept : (g : given.Over) (c : goal.After-take_slots g) → slots_shown g.S.Slot.shown c.take_slots.new.slots.items ≡ c.args.supply.now.kept
kept g c = all_kept g.S.Slot.shown c.args.slots.items c.take_slots.new.slots.items c.args.supply.now.kept c.requires.none c.take_slots.ensures.shown

pub new-requires : goal.new-requires
new-requires g c =
    let many = as_many g.S.Slot.shown c.take_slots.new.slots.items c.args.supply.now.kept (kept g c) in
    omega (arith, many, c.requires.few, c.take_slots.new.slots.ok)

pub returns-in-Ok-clause-made : goal.returns-in-Ok-clause-made
returns-in-Ok-clause-made g c =
    let shown = g.S.Slot.shown in
    let seat = c.in-Ok.ensures.seat in
    let fits = HasSlot {S = g.row.S.Denot} {R = g.row.R.Denot} shown (c.args.supply.now.block * g.R.Record.WIDTH) in
    let kept = all_kept shown c.args.slots.items c.take_slots.new.slots.items c.args.supply.now.kept c.requires.none c.take_slots.ensures.shown in
    record {
      row_is = seat.0;
      shares = ap (λ h. h.shares) seat.2;
      undrawn = ap (λ h. h.places) seat.2;
      items = ap (λ h. slots_shown shown h.items) seat.2 ∙ kept;
      bytes = subst (All fits) (sym (ap (λ h. h.items) seat.2)) c.take_slots.ensures.sizes;
    }
