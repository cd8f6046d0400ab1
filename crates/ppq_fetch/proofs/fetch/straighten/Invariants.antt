use Rattle.std.proofs.Common.{◌≡◌}
use Rattle.ppq_fetch.proofs.fetch.straighten.Given as goal

abbrev pub invariant-loop-i : goal.invariant-loop-i
invariant-loop-i g l = record { same : l.internal ≡ l.fn.internal }
