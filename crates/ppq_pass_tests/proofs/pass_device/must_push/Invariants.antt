use Rattle.std.proofs.Common.{◌≡◌}
use Rattle.ppq_pass.specs.Passed.{IsOf}
use Rattle.ppq_pass_tests.proofs.pass_device.must_push.Given as goal

abbrev pub invariant-pushing : goal.invariant-pushing
invariant-pushing g l = record {
  of : IsOf l.shared l.pass;
  key : l.pass.key ≡ l.fn.pass.key;
}
