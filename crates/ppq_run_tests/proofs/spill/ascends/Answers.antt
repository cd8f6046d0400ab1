use Rattle.std.proofs.Common.{length}
use Rattle.ppq_run_tests.proofs.Wide.{least_ascends}
use Rattle.ppq_run_tests.proofs.spill.ascends.Goals as goal

pub returns : goal.returns
returns c = λ e. least_ascends c.record_laws.ensures.order c.args.all.now (length c.args.all.now) (c.is_least.ensures.0 e)
