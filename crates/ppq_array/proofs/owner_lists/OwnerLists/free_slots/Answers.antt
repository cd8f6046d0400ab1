use Rattle.std.proofs.Common.{◌*◌, All, subst}
use Rattle.std.proofs.lemmas.List.Elements.{All-map}
use Rattle.ppq_array.specs.Supply.{Stock, IsSlot}
use Rattle.ppq_array.proofs.owner_lists.OwnerLists.free_slots.Goals as goal

pub returns-clause-slots : goal.returns-clause-slots
returns-clause-slots g c =
    let s = c.self.inside in
    let shown = g.S.Slot.shown in
    let width = g.R.Record.WIDTH in
    subst (λ (k : Stock). All (IsSlot (k.block * width)) k.kept) c.self.view_is (All-map (IsSlot (s.block * width)) (λ b. shown b.slot) s.slots c.self.invariant.sizes)
