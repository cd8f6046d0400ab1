use Rattle.std.proofs.Common.{◌≡◌, ◌++◌, length}
use Rattle.ppq_spill.proofs.groups.put_back.Given as goal

abbrev pub invariant-loop-buf : goal.invariant-loop-buf
invariant-loop-buf g l = l.idle ++ l.filled ≡ l.fn.idle ++ l.fn.filled

abbrev pub decreases-loop-buf : goal.decreases-loop-buf
decreases-loop-buf g l = length l.filled
