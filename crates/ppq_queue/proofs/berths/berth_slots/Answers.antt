use Rattle.std.proofs.Common.{ap, sym, ◌∙◌, reverse, length}
use Rattle.ppq_queue.proofs.Slots.{berths_back, turned}
use Rattle.ppq_queue.proofs.berths.berth_slots.Goals as goal

pub returns-clause-back : goal.returns-clause-back
returns-clause-back g c =
    berths_back g.S.Slot.shown c.args.slots.now.items _ c.berth_last.new.slots.items c.push_reserved.new.self.items c.take_kept.new.slots.items c.in-Err.slot c.berth_last.new.supply.kept (turned c.args.slots.now.items c.reverse.new.self c.args.slots.now.len (c.reverse.ensures.after ∙ ap reverse c.as_mut_slice.ensures.value) (sym c.as_mut_slice.ensures.len ∙ ap length c.as_mut_slice.ensures.value)) c.in-Err.ensures.part c.push_reserved.ensures.items c.take_kept.ensures.slots
