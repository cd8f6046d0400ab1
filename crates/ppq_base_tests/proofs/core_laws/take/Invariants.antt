use Rattle.ppq_core.specs.Shown.{IsSameSize}
use Rattle.ppq_base_tests.proofs.core_laws.take.Given as goal

abbrev pub invariant-steps : goal.invariant-steps
invariant-steps g l = IsSameSize l.fn.state l.state
