use Rattle.std.proofs.Common.{◌*◌, ◌-◌}
use Rattle.ppq_base_tests.proofs.pool.+fn-work_beside-join+arg2+work_beside.Given as goal

abbrev pub decreases-work_beside : goal.decreases-work_beside
decreases-work_beside g l = 2 * l.others

abbrev pub decreases-join+arg2 : goal.decreases-join+arg2
decreases-join+arg2 g l = 2 * l.others - 1
