use Rattle.std.proofs.Common.{◌*◌, All, subst}
use Rattle.std.proofs.lemmas.List.Elements.{All-tail}
use Rattle.ppq_fetch.specs.ppq_array.Owner.{HasSlot}
use Rattle.ppq_spill.proofs.making.next_slot.Goals as goal

pub returns-in-Some-clause-sizes : goal.returns-in-Some-clause-sizes
returns-in-Some-clause-sizes g c =
    let P = HasSlot g.S.Slot.shown ((g.P.Supply.stock c.args.supply.now).block * g.R.Record.WIDTH) in
    All-tail P c.in-Some.berth c.pop_front.new.self (subst (All P) c.in-Some.ensures.first c.requires.sizes)
