use Rattle.std.proofs.Common.{◌≡◌, ◌*◌, ◌^◌, ◌≤◌, length, take}
use Rattle.ppq_heap.specs.Heaps.{items_in}
use Rattle.ppq_heap.proofs.heaps.length_of_all.Given as goal

abbrev pub invariant-loop-place : goal.invariant-loop-place
invariant-loop-place g l = record {
  total : l.total ≡ length (items_in (take l.place l.heaps));
  within : l.total ≤ l.place * 2 ^ 32;
}
