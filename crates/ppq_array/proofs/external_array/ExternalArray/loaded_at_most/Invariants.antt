use Rattle.std.proofs.Common.{◌-◌, ◌≤◌, length}
use Rattle.ppq_block.specs.ppq_record.Order.{Ascends, is_before}
use Rattle.ppq_array.specs.Run.{items_of}
use Rattle.ppq_array.proofs.Searching.{Found}
use Rattle.ppq_array.proofs.external_array.ExternalArray.loaded_at_most.Given as goal

abbrev pub invariant-loop-low : goal.invariant-loop-low
invariant-loop-low g l = record {
  order : l.low ≤ l.high;
  within : l.high ≤ length (items_of l.loaded);
  found : Ascends g.R.Ord.cmp (items_of l.loaded) → Found (is_before g.R.Ord.cmp) l.u (items_of l.loaded) l.low l.high;
}

abbrev pub decreases-loop-low : goal.decreases-loop-low
decreases-loop-low g l = l.high - l.low
