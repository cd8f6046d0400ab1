use Rattle.std.proofs.Common.{◌≡◌, List, length, sum_by, ap, ◌∙◌, arith, map}
use Rattle.std.proofs.lemmas.List.Sums.{sum_by-append}
use Rattle.ppq_extract.specs.ppq_array.Holdings.{external_slots}
use Rattle.ppq_extract.specs.ppq_array.Owner.{slots_shown}
use Rattle.ppq_extract.specs.ppq_array.External.{External}
use Rattle.ppq_queue.proofs.Slots.{stored-push, stored-push_length, no_stored}
use Rattle.ppq_queue.proofs.berths.take_stored.Goals as goal

pub loop-array-preserved : goal.loop-array-preserved
loop-array-preserved g c =
    let i = c.loop-array.invariant in
    let shown = g.S.Slot.shown in
    let rest = c.pop.new.self.items in
    let array = c.in-Some.array in
    let e = c.in-Some.ensures.items in
    let give = c.give_up_all.ensures in
    record {
      sums = λ f. omega (arith, i.sums f, ap (λ (l : List (External g.row.S.Denot g.row.R.Denot)). sum_by f (external_slots shown l)) e, stored-push shown rest array f, give.slots f, sum_by-append f (map shown c.loop-array.slots.items) (slots_shown shown array.stored));
      count = omega (arith, i.count, ap (λ (l : List (External g.row.S.Denot g.row.R.Denot)). length (external_slots shown l)) e, stored-push_length shown rest array, give.count);
      capacity = give.capacity ∙ i.capacity;
    }

pub returns-clause-slots : goal.returns-clause-slots
returns-clause-slots g c f =
    let shown = g.S.Slot.shown in
    let none : length c.loop-array.arrays.items ≡ 0 = omega (arith, c.in_default.ensures.cases) in
    omega (arith, c.loop-array.invariant.sums f, sum_by-append f (map shown c.args.slots.now.items) (external_slots shown c.args.arrays.now.items), no_stored shown f c.loop-array.arrays.items none)
