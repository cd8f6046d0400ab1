use Rattle.std.proofs.Common.{◌≡◌}
use Rattle.ppq_queue_tests.proofs.queue.fill.Given as goal

abbrev pub invariant-pushes : goal.invariant-pushes
invariant-pushes g l = record { sizes : l.queue.sizes ≡ l.fn.queue.sizes }
