use Rattle.std.proofs.Common.{◌*◌, ◌-◌}
use Rattle.ppq_base_tests.proofs.row.+beside.Given as goal

abbrev pub decreases-join+arg2 : goal.decreases-join+arg2
decreases-join+arg2 g l = 2 * l.more - 1

abbrev pub decreases-draw_beside : goal.decreases-draw_beside
decreases-draw_beside g l = 2 * l.more
