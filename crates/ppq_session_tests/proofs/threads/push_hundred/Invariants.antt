use Rattle.std.proofs.Common.{◌≡◌}
use Rattle.ppq_session.specs.ppq_pass.Passed.{IsOf}
use Rattle.ppq_session_tests.proofs.threads.push_hundred.Given as goal

abbrev pub invariant-pushing : goal.invariant-pushing
invariant-pushing g l = record {
  of : IsOf l.shared l.pass;
  key : l.pass.key ≡ l.fn.pass.key;
}
