use Rattle.std.proofs.Common.{◌≡◌}
use Rattle.ppq_session.specs.ppq_budget.Sizes.{batch_of}
use Rattle.ppq_session_tests.proofs.session.popped_in_bulk.Given as goal

abbrev pub invariant-rounds : goal.invariant-rounds
invariant-rounds g l = l.out.room ≡ batch_of l.queue.sizes
