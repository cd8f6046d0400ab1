use Rattle.std.proofs.Common.{rules}
use Rattle.ppq_checked.specs.Sums.{with_number}
use Rattle.ppq_checked.proofs.lanes.with_number.Goals as goal

pub returns : goal.returns
unfolding with_number
returns c = search rules
