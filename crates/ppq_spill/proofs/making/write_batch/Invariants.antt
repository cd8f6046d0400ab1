use Rattle.std.proofs.Common.{length, ◌-◌, ◌≡◌, ◌*◌}
use Rattle.ppq_spill.specs.Making.{hand_of}
use Rattle.ppq_spill.specs.Writing.{SameBuffers}
use Rattle.ppq_spill.proofs.Batches.{Batch}
use Rattle.ppq_spill.proofs.making.write_batch.Given as goal

abbrev pub invariant-loop-at : goal.invariant-loop-at
invariant-loop-at g l =
    record {
      batch : (let s = g.P.Supply.stock l.fn.supply in Batch g.R.Record.record_of g.R.Record.WIDTH s.block g.S.Slot.shown (s.block * g.R.Record.WIDTH) l.records l.at (hand_of l.fn.making s) (hand_of l.making (g.P.Supply.stock l.supply)));
      idle : SameBuffers (g.P.Supply.stock l.fn.supply).block l.fn.idle l.idle;
      home : g.P.Supply.home l.supply ≡ g.P.Supply.home l.fn.supply;
    }

abbrev pub decreases-loop-at : goal.decreases-loop-at
decreases-loop-at g l = length l.records - l.at
