use Rattle.std.proofs.Common.{◌≡◌, arith, sym, ap, ◌∙◌, ◌++◌, ◌∷◌, [], map, reverse, append_assoc, List}
use Rattle.ppq_table.specs.declared.place.Place.{Place}
use Rattle.ppq_table.specs.declared.place.Place.TheVariants.{Item}
use Rattle.ppq_table.proofs.Places.{nil_of, laid_pop, item_inside, items_same}
use Rattle.ppq_table.proofs.laying.unlay.Goals as goal

pub unreachable-requires-in_default-place : goal.unreachable-requires-in_default-place
unreachable-requires-in_default-place g c = let X : Type 0 = g.row.T.Denot in let xs : List X = c.requires.0 in let a : List (Place X) = c.pop-in-loop-place.new.self.items in let p : Place X = c.in-Some.place in
    let b : List (Place X) = map Item (reverse c.loop-place.room.items) in
    let laid = laid_pop xs _ _ _ c.requires.1 c.in-Some-Room.ensures.items in
    let whole : map Item xs ≡ a ++ p ∷ b = laid.0 ∙ sym c.loop-place.invariant.all ∙ ap (λ (l : List (Place X)). l ++ b) c.in-Some.ensures.items ∙ append_assoc a (p ∷ []) b in
    let it = item_inside xs a b p whole in c.in_default-place.not-Item it.0 it.1

pub returns : goal.returns
returns g c = λ xs laid. let X : Type 0 = g.row.T.Denot in let first = laid_pop xs _ _ _ laid c.in-Some-Room.ensures.items in let e = c.in_default-pop.ensures in
    let none : c.loop-place.places.items ≡ [] = nil_of c.loop-place.places.items (omega (arith, e.cases.0, c.loop-place.places.ok)) in
    let b : List (Place X) = map Item (reverse c.loop-place.room.items) in
    c.reverse.ensures.items ∙ items_same (reverse c.loop-place.room.items) xs (ap (λ (l : List (Place X)). l ++ b) (sym none) ∙ c.loop-place.invariant.all ∙ sym first.0)
