use Rattle.std.proofs.Common.{◌≡◌, take}
use Rattle.ppq_extract.specs.ppq_array.Holdings.{external_buffers}
use Rattle.ppq_queue.proofs.settle.count_loaded.Given as goal

abbrev pub invariant-loop-array : goal.invariant-loop-array
invariant-loop-array g l = l.count ≡ external_buffers (take l.array-index l.arrays)
