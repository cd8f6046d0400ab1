use Rattle.std.proofs.Common.{◌≡◌, ◌*◌, ◌∷◌, ◌∙◌, [], All, List, length, sum_by, ap, subst, arith}
use Rattle.std.proofs.lemmas.List.{nil_from_length}
use Rattle.std.proofs.lemmas.List.Sums.{sum_by-append}
use Rattle.ppq_pass.specs.ppq_array.External.{External}
use Rattle.ppq_pass.specs.ppq_array.Owner.{slots_shown}
use Rattle.ppq_pass.specs.ppq_array.Holdings.{HasSlots, external_buffers, external_slots}
use Rattle.ppq_pass.proofs.ppq_array.Noted.{all_left}
use Rattle.ppq_pass.proofs.ppq_spill.Keeping.{slots_long}
use Rattle.ppq_queue.specs.Slots.{with_slots}
use Rattle.ppq_queue.proofs.Slots.{stored-push, stored-push_length, no_stored}
use Rattle.ppq_session.proofs.Emptying.{more_buffers}
use Rattle.ppq_session.proofs.gather.empty_arrays.Goals as goal

pub empty_array-requires-clause-room : goal.empty_array-requires-clause-room
empty_array-requires-clause-room g c lives within =
    let i = c.emptying.invariant in
    let shown = g.S.Slot.shown in
    omega (arith, i.room, c.requires.room, ap (λ (l : List (External g.row.S.Denot g.row.R.Denot)). length (external_slots shown l)) c.in-Some.ensures.items, stored-push_length shown c.pop.new.self.items c.in-Some.array)

pub emptying-preserved : goal.emptying-preserved
emptying-preserved g c =
    let i = c.emptying.invariant in
    let shown = g.S.Slot.shown in
    let fn = c.args.supply.now in
    let rest = c.pop.new.self.items in
    let array = c.in-Some.array in
    let e = c.in-Some.ensures.items in
    let one = c.empty_array.ensures in
    let t = c.empty_array.new.supply in
    let fits = HasSlots {S = g.row.S.Denot} {R = g.row.R.Denot} shown (fn.block * g.R.Record.WIDTH) in
    record {
      sums = λ f. omega (arith, i.sums f, one.back.slots_are f, sum_by-append f c.emptying.supply.kept (slots_shown shown array.stored), ap (λ (l : List (External g.row.S.Denot g.row.R.Denot)). sum_by f (external_slots shown l)) e, stored-push shown rest array f);
      stock = one.back.stock ∙ ap (λ x. with_slots x t.kept t.slot_room) i.stock;
      room = omega (arith, i.room, one.back.room, slots_long shown array.stored, ap (λ (l : List (External g.row.S.Denot g.row.R.Denot)). length (external_slots shown l)) e, stored-push_length shown rest array);
      sizes = all_left fits rest (array ∷ []) (subst (λ l. All fits l) e i.sizes);
      idle = omega (arith, i.idle, one.idle, ap external_buffers e, more_buffers rest array);
    }

pub returns-clause-back : goal.returns-clause-back
returns-clause-back g c =
    let shown = g.S.Slot.shown in
    let i = c.emptying.invariant in
    let none : length c.emptying.arrays.items ≡ 0 = omega (arith, c.in_default.ensures.cases) in
    record {
      slots_are = λ f. omega (arith, i.sums f, sum_by-append f c.args.supply.now.kept (external_slots shown c.args.arrays.items), no_stored shown f c.emptying.arrays.items none);
      stock = i.stock;
      room = omega (arith, i.room, ap (λ (l : List (External g.row.S.Denot g.row.R.Denot)). length (external_slots shown l)) (nil_from_length c.emptying.arrays.items none));
    }
