use Rattle.std.proofs.Common.{◌≡◌, length, take, drop}
use Rattle.ppq_fetch.specs.Steps.{RunsConsumed}
use Rattle.ppq_fetch.proofs.take.consume_internal.Given as goal

abbrev pub invariant-loop-i : goal.invariant-loop-i
invariant-loop-i g l = record {
  done : RunsConsumed (take l.i l.places) (take l.i l.fn.internal) (take l.i l.internal) (g.P.Supply.stock l.fn.supply) (g.P.Supply.stock l.supply);
  rest : drop l.i l.internal ≡ drop l.i l.fn.internal;
  long : length l.internal ≡ length l.fn.internal;
  each : length l.places ≡ length l.fn.internal;
  home : g.P.Supply.home l.supply ≡ g.P.Supply.home l.fn.supply;
}
