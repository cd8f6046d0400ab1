use Rattle.std.proofs.Common.{◌-◌}
use Rattle.ppq_record.specs.Order.{is_before}
use Rattle.ppq_split.specs.Bounds.{AreBounds}
use Rattle.ppq_split.proofs.search.find_cut.Given as goal

abbrev pub invariant-loop-bounds : goal.invariant-loop-bounds
invariant-loop-bounds g l = AreBounds (is_before g.R.Ord.cmp) (g.Q.Listing.lists l.runs) l.rank l.bounds

abbrev pub decreases-loop-bounds : goal.decreases-loop-bounds
decreases-loop-bounds g l = l.bounds.high_rank - l.bounds.low_rank
