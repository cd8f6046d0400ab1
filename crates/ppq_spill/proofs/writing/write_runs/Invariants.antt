use Rattle.std.proofs.Common.{length, drop}
use Rattle.ppq_spill.specs.Choosing.{OnTree}
use Rattle.ppq_spill.specs.Writing.{BodyRests, Writing, block_in}
use Rattle.ppq_spill.proofs.writing.write_runs.Given as goal

abbrev pub invariant-loop-berth : goal.invariant-loop-berth
invariant-loop-berth g l =
    let block = block_in l.fn.body.lanes.idle in
    record {
      writing : Writing g.R.Ord.cmp g.R.Record.record_of g.R.Record.WIDTH block g.S.Slot.shown l.fn.making.berths l.fn.body.runs.internal.items l.sorted l.making.berths l.body.runs.internal.items (drop l.at l.sorted) l.making.made;
      ready : OnTree l.sorted l.at l.body.runs.internal.items l.body.tree.items;
      rests : BodyRests block l.fn.body l.body;
    }

abbrev pub decreases-loop-berth : goal.decreases-loop-berth
decreases-loop-berth g l = length l.making.berths
