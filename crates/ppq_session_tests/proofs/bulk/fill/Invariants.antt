use Rattle.std.proofs.Common.{◌≡◌}
use Rattle.ppq_session_tests.proofs.bulk.fill.Given as goal

abbrev pub invariant-filling : goal.invariant-filling
invariant-filling l = l.pass.key ≡ l.fn.pass.key
