use Rattle.ppq_spill.proofs.Emptied.{emptied}
use Rattle.ppq_spill.proofs.level.see_one_emptied.Goals as goal

pub returns : goal.returns
returns g c = emptied g.R.Record.record_of g.R.Record.WIDTH g.S.Slot.shown c.args.array.now c.requires.none c.requires.lifted c.requires.spent c.loaded-loaded.ensures.run c.next_minimum-next.ensures.labelled
