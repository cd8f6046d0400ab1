use Rattle.std.proofs.Common.{◌≡◌}
use Rattle.ppq_session.specs.ppq_pass.Passed.{IsOf}
use Rattle.ppq_bench.proofs.sessions.fill.Given as goal

abbrev pub invariant-filling : goal.invariant-filling
invariant-filling g l = record {
  of : IsOf l.shared l.pass;
  key : l.pass.key ≡ l.fn.pass.key;
}
