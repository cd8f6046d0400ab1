use Rattle.std.proofs.Common.{◌≡◌, length}
use Rattle.ppq_bench.proofs.load.Load.new.Given as goal

abbrev pub invariant-loop-run : goal.invariant-loop-run
invariant-loop-run l = length l.lists.items ≡ l.run
