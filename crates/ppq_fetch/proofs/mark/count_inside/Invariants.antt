use Rattle.std.proofs.Common.{◌-◌, ◌≡◌, ◌≤◌, length}
use Rattle.ppq_array.specs.ppq_record.Order.{Ascends}
use Rattle.ppq_fetch.specs.Edges.{is_within}
use Rattle.ppq_fetch.specs.declared.edge.Edge.TheVariants.{Whole}
use Rattle.ppq_fetch.proofs.Marking.{Found}
use Rattle.ppq_fetch.proofs.mark.count_inside.Given as goal

abbrev pub invariant-loop-low : goal.invariant-loop-low
invariant-loop-low g l = record {
  order : l.low ≤ l.high;
  within : l.high ≤ length (g.Q.Loaded.list l.run);
  whole : l.edge ≡ Whole → l.high ≡ length (g.Q.Loaded.list l.run);
  found : Ascends g.R.Ord.cmp (g.Q.Loaded.list l.run) → Found (is_within g.R.Ord.cmp l.edge) (g.Q.Loaded.list l.run) l.low l.high;
}

abbrev pub decreases-loop-low : goal.decreases-loop-low
decreases-loop-low g l = l.high - l.low
