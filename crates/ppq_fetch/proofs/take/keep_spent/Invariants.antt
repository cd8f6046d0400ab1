use Rattle.std.proofs.Common.{◌≡◌, ◌++◌, length}
use Rattle.ppq_array.specs.Run.{run_of}
use Rattle.ppq_array.specs.External.{external}
use Rattle.ppq_fetch.proofs.take.keep_spent.Given as goal

abbrev pub invariant-loop-buf : goal.invariant-loop-buf
invariant-loop-buf g l = record {
  array : l.array ≡ external l.fn.array.level (run_of l.fn.array.loaded.live l.fn.array.loaded.taken l.array.loaded.spent) l.fn.array.lifted l.fn.array.stored;
  idle : l.idle ++ l.array.loaded.spent ≡ l.fn.idle ++ l.fn.array.loaded.spent;
}

abbrev pub decreases-loop-buf : goal.decreases-loop-buf
decreases-loop-buf g l = length l.array.loaded.spent
