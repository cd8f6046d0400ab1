use Rattle.std.proofs.Common.{◌≡◌}
use Rattle.ppq_testkit.proofs.queues.pushed.Given as goal

abbrev pub invariant-pushing : goal.invariant-pushing
invariant-pushing g l = l.queue.sizes ≡ l.fn.queue.sizes
