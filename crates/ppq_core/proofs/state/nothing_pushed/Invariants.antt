use Rattle.std.proofs.Common.{◌≡◌, [], replicate}
use Rattle.ppq_core.proofs.state.nothing_pushed.Given as goal

abbrev pub invariant-loop : goal.invariant-loop
invariant-loop g l = l.pushed.items ≡ replicate l.counter []
