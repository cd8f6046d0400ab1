use Rattle.ppq_pass.specs.Passed.{IsOf}
use Rattle.ppq_pass_tests.proofs.pass_device.fill.Given as goal

abbrev pub invariant-pushing : goal.invariant-pushing
invariant-pushing g l = IsOf l.shared l.pass
