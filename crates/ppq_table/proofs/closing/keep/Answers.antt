use Rattle.std.proofs.Common.{◌≡◌, ℕ, ◌+◌, arith, sym, ap, ◌∙◌, ◌++◌, ◌∷◌, [], take, drop, subst, List, add-one}
use lib.ListN.{get_elem?}
use mathlib.Core.Option.{some}
use Rattle.std.specs.Slots.{slots_items}
use Rattle.ppq_table.specs.declared.place.Place.{Place}
use Rattle.ppq_table.specs.Places.{items_in, Unread}
use Rattle.ppq_table.proofs.Places.{items_in-more, Unread-more}
use Rattle.ppq_table.proofs.closing.keep.Goals as goal

pub loop-i-preserved : goal.loop-i-preserved
loop-i-preserved g c = let inv = c.loop-i.invariant in let took = c.take.ensures.others in let X : Type 0 = g.row.T.Denot in let i : ℕ = c.loop-i.i in let from : ℕ = c.args.from in
    let ps : List (Place X) = slots_items c.args.closed.now.slots in let put = c.put_item.ensures in
    let at : get_elem? ps i ≡ some c.take.result = ap (λ (l : List (Place X)). get_elem? l i) (sym inv.same) ∙ c.take.ensures.value in record {
      same = took.0 ∙ inv.same;
      count = took.2 ∙ inv.count;
      unread = subst (λ f. Unread f (i + 1) c.args.end) (sym took.1) (Unread-more _ i c.args.end c.loop-i-test.true inv.unread);
      few = omega (arith, put.count, inv.few);
      capacity = put.capacity ∙ inv.capacity;
      items = put.items ∙ ap (λ (l : List X). l ++ items_in (c.take.result ∷ [])) inv.items ∙ sym (ap (λ (n : ℕ). items_in (drop from (take n ps))) (add-one i) ∙ items_in-more ps from i c.take.result (omega arith) at);
    }
