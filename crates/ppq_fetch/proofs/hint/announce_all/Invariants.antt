use Rattle.std.proofs.Common.{◌≡◌}
use Rattle.ppq_fetch.proofs.hint.announce_all.Given as goal

abbrev pub invariant-loop-run : goal.invariant-loop-run
invariant-loop-run g l = record { same : l.external ≡ l.fn.external }
