use Rattle.std.proofs.Common.{◌≡◌}
use Rattle.ppq_session.specs.ppq_pass.Passed.{IsOf}
use Rattle.ppq_session_tests.proofs.limited.push_half.Given as goal

abbrev pub invariant-pushing : goal.invariant-pushing
invariant-pushing g l = record {
  of : IsOf l.shared l.pass.pass;
  key : l.pass.pass.key ≡ l.fn.pass.pass.key;
  limit : l.pass.limit ≡ l.fn.pass.limit;
}
