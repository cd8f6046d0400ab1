use Rattle.std.proofs.Common.{◌≡◌, length, take, drop}
use Rattle.ppq_fetch.specs.Steps.{ArraysConsumed}
use Rattle.ppq_fetch.proofs.take.consume_external.Given as goal

abbrev pub invariant-loop-i : goal.invariant-loop-i
invariant-loop-i g l = record {
  done : ArraysConsumed (take l.i l.places) (take l.i l.fn.external) (take l.i l.external) l.fn.idle l.idle;
  rest : drop l.i l.external ≡ drop l.i l.fn.external;
  long : length l.external ≡ length l.fn.external;
  each : length l.places ≡ length l.fn.external;
}
