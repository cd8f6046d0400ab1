use Rattle.std.proofs.Common.{◌≡◌, ◌+◌, ◌*◌, ◌∷◌, ◌++◌, All, length, sym, ap, ◌∙◌, subst}
use Rattle.std.proofs.lemmas.List.Elements.{All-tail}
use Rattle.ppq_fetch.specs.ppq_array.Owner.{HasSlot, slots_shown}
use Rattle.ppq_spill.proofs.Moving.{frees}
use Rattle.ppq_spill.proofs.slots.free_slots.Goals as goal

pub loop-berth-preserved : goal.loop-berth-preserved
loop-berth-preserved g c =
    let i = c.loop-berth.invariant in
    let shown = g.S.Slot.shown in
    let rest = c.pop_front.new.self in
    let b = c.in-Some.berth in
    let old = g.P.Supply.stock c.args.supply.now in
    let now = g.P.Supply.stock c.loop-berth.supply in
    let e = c.in-Some.ensures.first in
    let kept : now.kept ++ shown b.slot ∷ slots_shown shown rest ≡ old.kept ++ slots_shown shown c.args.berths = ap (λ bs. now.kept ++ slots_shown shown bs) (sym e) ∙ i.kept in
    let room = i.room ∙ ap (λ bs. old.slot_room + length bs) e in
    let next = frees old now (g.P.Supply.stock c.free_slot.new.supply) (length c.args.berths) (length rest) (shown b.slot) (slots_shown shown rest) (slots_shown shown c.args.berths) i.stock kept room c.requires.room c.free_slot.ensures.back in
    record {
      stock = next.0;
      kept = next.1;
      room = next.2;
      sizes = All-tail (HasSlot shown (old.block * g.R.Record.WIDTH)) b rest (subst (All (HasSlot shown (old.block * g.R.Record.WIDTH))) e i.sizes);
      home = c.free_slot.ensures.home ∙ i.home;
    }
