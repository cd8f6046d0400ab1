use Rattle.std.proofs.Common.{◌≡◌, length}
use Rattle.ppq_base_tests.proofs.heaps.takes.Given as goal

abbrev pub invariant-taking : goal.invariant-taking
invariant-taking g l = length l.heaps.heaps ≡ length l.fn.heaps.heaps
