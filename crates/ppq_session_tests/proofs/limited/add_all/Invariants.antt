use Rattle.std.proofs.Common.{◌≡◌}
use Rattle.ppq_session.specs.ppq_pass.Passed.{IsOf}
use Rattle.ppq_session_tests.proofs.limited.add_all.Given as goal

abbrev pub invariant-adding : goal.invariant-adding
invariant-adding g l = record {
  of : IsOf l.shared l.pass.pass;
  key : l.pass.pass.key ≡ l.fn.pass.pass.key;
  limit : l.pass.limit ≡ l.fn.pass.limit;
}
