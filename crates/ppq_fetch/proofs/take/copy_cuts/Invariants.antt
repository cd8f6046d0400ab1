use Rattle.std.proofs.Common.{◌≡◌, length, take}
use Rattle.ppq_fetch.proofs.take.copy_cuts.Given as goal

abbrev pub invariant-loop-run : goal.invariant-loop-run
invariant-loop-run g l = record {
  same : length l.places ≡ length l.fn.places;
  copied : take l.run l.places ≡ take l.run l.bench.places;
}
