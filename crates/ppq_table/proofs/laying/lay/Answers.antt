use Rattle.std.proofs.Common.{◌≡◌, arith, sym, ap, ◌∙◌, ◌++◌, ◌∷◌, [], map, reverse, append-nil, List}
use Rattle.std.proofs.lemmas.List.{reverse-reverse}
use Rattle.ppq_table.specs.declared.place.Place.TheVariants.{Item, Room}
use Rattle.ppq_table.proofs.Places.{nil_of}
use Rattle.ppq_table.proofs.laying.lay.Goals as goal

pub returns-clause-laid : goal.returns-clause-laid
returns-clause-laid g c = let room = c.pop.new.self in let e = c.in_default-pop.ensures in let left : c.loop-item.items.items ≡ room.items = e.items ∙ append-nil room.items in
    let none : room.items ≡ [] = nil_of room.items (omega (arith, e.cases.1, room.ok)) in let inv = c.loop-item.invariant in
    let laid : c.loop-item.places.items ≡ map Item c.args.items.items =
    sym (append-nil c.loop-item.places.items) ∙ ap (λ (l : List g.row.T.Denot). c.loop-item.places.items ++ map Item (reverse l)) (sym (left ∙ none)) ∙ inv.all
    ∙ ap (λ (l : List g.row.T.Denot). map Item l) (ap reverse c.reverse.ensures.items ∙ reverse-reverse c.args.items.items) in
    (room, c.push_reserved-2.ensures.items ∙ ap (λ l. l ++ Room room ∷ []) laid, (none, omega (arith, inv.room, e.capacity, c.reverse.ensures.len, c.args.items.ok)))
