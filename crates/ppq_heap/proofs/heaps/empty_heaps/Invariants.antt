use Rattle.std.specs.Prelude.{vec_capacity}
use Rattle.std.proofs.Common.{◌≡◌, ◌≤◌, replicate}
use Rattle.ppq_heap.specs.Heaps.{empty_heap}
use Rattle.ppq_heap.proofs.heaps.empty_heaps.Given as goal

abbrev pub invariant-loop-worker : goal.invariant-loop-worker
invariant-loop-worker g l = record {
  heaps : l.heaps.items ≡ replicate l._worker (empty_heap l.cap);
  capacity : l.workers ≤ vec_capacity l.heaps;
}
