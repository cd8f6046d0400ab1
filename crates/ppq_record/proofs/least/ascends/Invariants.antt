use Rattle.std.proofs.Common.{◌<◌, ◌+◌, ℕ, get_or}
use Rattle.ppq_record.specs.Order.{is_before, Le}
use Rattle.ppq_record.proofs.least.ascends.Given as goal

abbrev pub invariant-loop-i : goal.invariant-loop-i
invariant-loop-i g l = (k : ℕ) (d : g.row.R.Denot) → k + 1 < l.i → Le (is_before g.R.Ord.cmp) (get_or l.items k d) (get_or l.items (k + 1) d)
