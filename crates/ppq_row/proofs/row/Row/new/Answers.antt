use Rattle.std.proofs.Common.{List, sym, ap, arith, subst, ◌<◌, length}
use Rattle.atomic_table.specs.Table.{opening}
use Rattle.ppq_table.specs.Places.{IsLaid}
use Rattle.ppq_table.specs.Sums.{all_shares}
use Rattle.ppq_row.specs.Hands.{first_hand}
use Rattle.ppq_row.specs.Rule.{RowRule}
use Rattle.ppq_row.proofs.Ends.{starts}
use Rattle.ppq_row.proofs.row.Row.new.Goals as goal

pub new-requires : goal.new-requires
new-requires g c = let xs : List g.row.T.Denot = c.args.items.items in
    let short : length xs < all_shares = omega (arith, c.requires, c.args.items.ok) in
    subst (λ (l : List g.row.T.Denot). RowRule l (opening _ c.in-Ok.places.items (first_hand l))) (ap (λ v. v.items) (sym c.of-about.ensures)) (starts xs c.in-Ok.places.items short c.in-Ok.ensures.laid)

pub unlay-requires : goal.unlay-requires
unlay-requires g c = (c.args.items.items, subst (IsLaid c.args.items.items) (sym c.in-Err-new.ensures.err) c.in-Ok.ensures.laid)

pub returns-clause-unchanged : goal.returns-clause-unchanged
returns-clause-unchanged g c = c.unlay.ensures c.args.items.items (subst (IsLaid c.args.items.items) (sym c.in-Err-new.ensures.err) c.in-Ok.ensures.laid)
