use Rattle.std.proofs.Common.{◌*◌}
use Rattle.ppq_merge.proofs.idle.+idle.Given as goal

abbrev pub decreases-enter_all : goal.decreases-enter_all
decreases-enter_all g l = 2 * l.count

abbrev pub decreases-join_mut+arg2 : goal.decreases-join_mut+arg2
decreases-join_mut+arg2 g l = 2 * l.half

abbrev pub decreases-join_mut+arg3 : goal.decreases-join_mut+arg3
decreases-join_mut+arg3 g l = 2 * l.rest
