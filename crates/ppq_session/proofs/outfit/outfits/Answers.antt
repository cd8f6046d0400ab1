use Rattle.std.proofs.Common.{◌≡◌, ◌+◌, ◌/◌, ◌∷◌, ◌++◌, [], All, length, sym, ap, subst, arith, length-append}
use Rattle.std.proofs.lemmas.List.Elements.{All-push}
use Rattle.ppq_session.specs.Outfits.{IsOutfit}
use Rattle.ppq_session.proofs.outfit.outfits.Goals as goal

pub making-preserved : goal.making-preserved
making-preserved g c =
    let i = c.making.invariant in
    let before = c.making.all.items in
    let one = c.in_ok-make_outfit.field-0 in
    let all : c.push_reserved.new.self.items ≡ before ++ one ∷ [] = c.push_reserved.ensures.items in
    let fits = IsOutfit {S = g.row.S.Denot} {R = g.row.R.Denot} (c.args.pool / c.args.sizes.now.heap + 1) (c.args.sizes.now.blocks / c.args.sizes.now.heap + 1) c.args.buffers in
    record {
      count = omega (arith, i.count, ap length all, length-append before (one ∷ []));
      each = subst (All fits) (sym all) (All-push fits before one i.each c.in_ok-make_outfit.ensures);
      room = omega (arith, i.room, c.push_reserved.ensures.capacity);
    }
