use Rattle.std.proofs.Common.{◌≡◌, ◌+◌, min, [], length}
use Rattle.ppq_fetch.specs.Fetching.{count_in}
use Rattle.ppq_spill.specs.Making.{table_of, MergedOn, SameTools}
use Rattle.ppq_spill.proofs.level.merge_in_turn.Given as goal

abbrev pub invariant-loop-last : goal.invariant-loop-last
invariant-loop-last g l =
    record {
      merged : MergedOn g.R.Ord.cmp g.R.Record.record_of g.R.Record.WIDTH l.fn.bench.workers g.S.Slot.shown (table_of l.fn.inputs l.fn.lanes l.fn.making (g.P.Supply.stock l.fn.supply)) (table_of l.inputs l.lanes l.making (g.P.Supply.stock l.supply));
      end : l.last ≡ 0 → count_in [] l.inputs ≡ 0;
      home : g.P.Supply.home l.supply ≡ g.P.Supply.home l.fn.supply;
      tools : SameTools l.fn.lanes l.lanes l.fn.bench.workers l.bench.workers (length l.fn.bench.places) (length l.bench.places);
    }

abbrev pub decreases-loop-last : goal.decreases-loop-last
decreases-loop-last g l = min l.last 1 + count_in [] l.inputs
