use Rattle.std.proofs.Common.{◌≡◌, ◌∷◌, ◌++◌, All, length, map, refl, sym, ap, ◌∙◌, subst, arith}
use Rattle.std.proofs.lemmas.List.Elements.{All-push}
use Rattle.ppq_spill.specs.Grouping.{slot_of, buf_of, IsWrite}
use Rattle.ppq_spill.proofs.Jobs.{map_on, long_on}
use Rattle.ppq_spill.proofs.groups.begin_group.Goals as goal

pub loop-buf-preserved : goal.loop-buf-preserved
loop-buf-preserved g c =
    let l = c.loop-buf in
    let i = l.invariant in
    let e1 = c.in-Some.ensures.first in
    let e2 : l.berths ≡ c.unwrap-slot.result ∷ c.pop_front-in-Some.new.self = rw c.unwrap-slot.ensures at c.pop_front-in-Some.ensures.first in
    let items = c.push_reserved.ensures.items in
    record {
      slots = i.slots ∙ ap (λ bs. map slot_of l.jobs.items ++ bs) e2 ∙ map_on slot_of l.jobs.items _ c.pop_front-in-Some.new.self items;
      bufs = i.bufs ∙ ap (λ bs. map buf_of l.jobs.items ++ bs) e1 ∙ map_on buf_of l.jobs.items _ c.pop_front.new.self items;
      write = subst (All IsWrite) (sym items) (All-push IsWrite l.jobs.items _ i.write refl);
      few = omega (arith, i.few, ap length e1, ap length e2);
      room = omega (arith, i.room, ap length e1, long_on l.jobs.items _ items, c.push_reserved.ensures.capacity);
      capacity = c.push_reserved.ensures.capacity ∙ i.capacity;
    }
