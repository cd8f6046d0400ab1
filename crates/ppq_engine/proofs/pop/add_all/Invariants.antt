use Rattle.std.proofs.Common.{◌≡◌, ◌+◌, ◌++◌, List, take}
use Rattle.ppq_script.specs.Words.{words}
use Rattle.ppq_engine.specs.Gathers.{IsSummary}
use Rattle.ppq_engine.proofs.pop.add_all.Given as goal

abbrev pub invariant-loop-i : goal.invariant-loop-i
invariant-loop-i g l = let w = words g.R.PartialEq g.R.PartialOrd g.R.Ord g.R.Record g.R.Fields in
    record {
      count : l.drained.count ≡ l.fn.before.count + l.i;
      summary : (had : List g.row.R.Denot) → IsSummary w had l.fn.before → IsSummary w (had ++ take l.i l.items) l.drained;
    }
