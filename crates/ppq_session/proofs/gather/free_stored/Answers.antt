use Rattle.std.proofs.Common.{◌-◌, ◌*◌, ◌++◌, ◌∷◌, ◌∙◌, [], All, List, length, sum_by, ap, ap₂, sym, subst, refl, arith, length-append}
use Rattle.std.proofs.lemmas.List.{map-append}
use Rattle.std.proofs.lemmas.List.Sums.{sum_by-append, sum_by-cons}
use Rattle.ppq_pass.specs.ppq_array.Owner.{HasSlot, slots_shown}
use Rattle.ppq_pass.specs.ppq_array.declared.berth.DeviceBlock.{DeviceBlock}
use Rattle.ppq_pass.proofs.ppq_array.Noted.{all_left}
use Rattle.ppq_pass.proofs.ppq_spill.Keeping.{slots_long}
use Rattle.ppq_queue.specs.Slots.{with_slots}
use Rattle.ppq_session.proofs.gather.free_stored.Goals as goal

pub freeing-preserved : goal.freeing-preserved
freeing-preserved g c =
    let shown = g.S.Slot.shown in
    let i = c.freeing.invariant in
    let fn = c.args.supply.now in
    let s = c.freeing.supply in
    let berth = c.in-Some.berth in
    let rest = c.give_up.new.self.stored in
    let e = c.in-Some.ensures.last in
    let back = c.free_slot.ensures.back in
    let fits = HasSlot {S = g.row.S.Denot} {R = g.row.R.Denot} shown (fn.block * g.R.Record.WIDTH) in
    record {
      sums = λ f.
          omega (
            arith,
            i.sums f,
            ap (λ x. sum_by f x.kept) back,
            sum_by-append f s.kept (shown berth.slot ∷ []),
            sum_by-cons f (shown berth.slot) [],
            ap (λ (l : List (DeviceBlock g.row.S.Denot g.row.R.Denot)). sum_by f (slots_shown shown l)) e,
            ap (sum_by f) (map-append (λ (b : DeviceBlock g.row.S.Denot g.row.R.Denot). shown b.slot) rest (berth ∷ [])),
            sum_by-append f (slots_shown shown rest) (shown berth.slot ∷ []),
          );
      stock = back ∙ ap (λ x. with_slots x (s.kept ++ shown berth.slot ∷ []) (s.slot_room - 1)) i.stock ∙ ap₂ (λ k r. with_slots fn k r) (sym (ap (λ x. x.kept) back)) (sym (ap (λ x. x.slot_room) back));
      room = omega (arith, ap (λ x. x.slot_room) back, ap length e, length-append rest (berth ∷ []), i.room, c.requires.room);
      sizes = all_left fits rest (berth ∷ []) (subst (λ l. All fits l) e i.sizes);
    }

pub returns : goal.returns
returns g c =
    let shown = g.S.Slot.shown in
    let i = c.freeing.invariant in
    let none = c.in_default.ensures.none.0 refl in
    record {
      slots_are = λ f. omega (arith, i.sums f, sum_by-append f c.args.supply.now.kept (slots_shown shown c.args.array.stored), ap (λ (l : List (DeviceBlock g.row.S.Denot g.row.R.Denot)). sum_by f (slots_shown shown l)) none);
      stock = i.stock;
      room = omega (arith, i.room, ap length none, slots_long shown c.args.array.stored);
    }
