use Rattle.std.proofs.Common.{◌≡◌}
use Rattle.ppq_model.proofs.begin.Given as goal

abbrev pub invariant-adding : goal.invariant-adding
invariant-adding g l = l.events.sizes ≡ l.fn.events.sizes
