use Rattle.std.proofs.Common.{◌≡◌, ◌+◌, ◌-◌, ◌<◌, ◌^◌, [], length}
use Rattle.std.specs.Prelude.{vec_capacity}
use Rattle.ppq_fetch.specs.Fetching.{count_in}
use Rattle.ppq_spill.specs.Making.{table_of, SameTools}
use Rattle.ppq_spill.proofs.Turned.{AtTurn}
use Rattle.ppq_spill.proofs.turns.merge_beside.Given as goal

abbrev pub invariant-loop-count : goal.invariant-loop-count
invariant-loop-count g l =
    record {
      turn : AtTurn g.R.Ord.cmp g.R.Record.record_of g.R.Record.WIDTH l.fn.bench.workers (length l.fn.bench.places) (length l.fn.lanes.batch.items) g.S.Slot.shown (table_of l.fn.inputs l.fn.lanes l.fn.making (g.P.Supply.stock l.fn.supply)) l.inputs l.making.made l.making.berths l.lanes.idle (g.P.Supply.stock l.supply) l.lanes.batch.items l.count;
      few : length l.making.berths < 2 ^ 32 - 1;
      home : g.P.Supply.home l.supply ≡ g.P.Supply.home l.fn.supply;
      tools : SameTools l.fn.lanes l.lanes l.fn.bench.workers l.bench.workers (length l.fn.bench.places) (length l.bench.places);
      no_job : l.jobs.items ≡ [];
      job_room : vec_capacity l.jobs ≡ vec_capacity l.fn.jobs;
    }

abbrev pub decreases-loop-count : goal.decreases-loop-count
decreases-loop-count g l = l.count + count_in [] l.inputs
