use Rattle.std.proofs.Common.{◌*◌, All, sym, ap, ◌∙◌, subst}
use Rattle.ppq_fetch.specs.ppq_array.Owner.{HasSlot}
use Rattle.ppq_fetch.proofs.ppq_array.Noted.{all_left, all_right}
use Rattle.ppq_spill.proofs.pair.end_pair.Goals as goal

pub free_slots-requires-clause-size : goal.free_slots-requires-clause-size
free_slots-requires-clause-size g c = all_left (HasSlot g.S.Slot.shown ((g.P.Supply.stock c.args.supply.now).block * g.R.Record.WIDTH)) c.args.first.berths c.args.second.berths c.requires.sizes

pub free_slots-requires-2-clause-size : goal.free_slots-requires-2-clause-size
free_slots-requires-2-clause-size g c =
    let stock = g.P.Supply.stock c.args.supply.now in
    let same = ap (λ s. s.block) c.free_all.ensures.stock ∙ ap (λ s. s.block) c.free_slots.ensures.stock in
    subst (λ b. All (HasSlot g.S.Slot.shown (b * g.R.Record.WIDTH)) c.args.second.berths) (sym same) (all_right (HasSlot g.S.Slot.shown (stock.block * g.R.Record.WIDTH)) c.args.first.berths c.args.second.berths c.requires.sizes)
