use Rattle.std.proofs.Common.{◌≡◌}
use Rattle.ppq_session.specs.ppq_budget.Sizes.{batch_of}
use Rattle.ppq_bench.proofs.sessions.drain.Given as goal

abbrev pub invariant-rounds : goal.invariant-rounds
invariant-rounds g l = l.out.room ≡ batch_of l.queue.sizes
