use Rattle.std.proofs.Common.{◌≡◌, fold, take}
use Rattle.ppq_checked.specs.Sums.{with_row, first_lanes}
use Rattle.ppq_checked.proofs.lanes.sum_rows.Given as goal

abbrev pub invariant-loop-row : goal.invariant-loop-row
invariant-loop-row l = l.lanes ≡ fold with_row first_lanes (take l.row-index l.rows)
