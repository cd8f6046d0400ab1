use Rattle.std.proofs.Common.{◌≡◌}
use Rattle.ppq_budget.specs.Sizes.{batch_of}
use Rattle.ppq_queue_tests.proofs.bulk.count_sevens.Given as goal

abbrev pub invariant-rounds : goal.invariant-rounds
invariant-rounds g l = record { room : l.out.room ≡ batch_of l.queue.sizes }
