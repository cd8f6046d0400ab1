use Rattle.std.proofs.Common.{◌-◌, ◌≤◌, length}
use Rattle.ppq_spill.specs.Grouping.{FilledGroup}
use Rattle.ppq_spill.proofs.groups.fill_group.Given as goal

abbrev pub invariant-filling : goal.invariant-filling
invariant-filling g l = record {
  is : FilledGroup g.R.Ord.cmp (length l.filled) l.sorted l.fn.at l.at l.fn.body l.body l.filled;
  within : length l.filled ≤ l.count;
}

abbrev pub decreases-filling : goal.decreases-filling
decreases-filling g l = l.count - length l.filled
