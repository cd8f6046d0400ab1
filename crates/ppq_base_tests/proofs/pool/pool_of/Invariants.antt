use Rattle.std.proofs.Common.{◌≡◌, vec_len}
use Rattle.ppq_base_tests.proofs.pool.pool_of.Given as goal

abbrev pub invariant-loop-i : goal.invariant-loop-i
invariant-loop-i g l = vec_len l.tiles ≡ l.i
