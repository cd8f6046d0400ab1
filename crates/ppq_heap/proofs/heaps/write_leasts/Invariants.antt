use Rattle.std.proofs.Common.{◌≡◌, ◌≤◌, ◌<◌, ◌^◌, length, take, map, All}
use Rattle.ppq_tree.specs.ppq_record.Bag.{least}
use Rattle.ppq_heap.specs.Heap.{Contents}
use Rattle.ppq_heap.proofs.heaps.write_leasts.Given as goal

abbrev pub invariant-loop-leaf : goal.invariant-loop-leaf
invariant-loop-leaf g l = record {
  leaves : length l.tree.items ≡ length l.heaps;
  leasts : take l.leaf l.tree.items ≡ map (λ (h : Contents g.row.R.Denot). least g.R.Ord.cmp h.items) (take l.leaf l.heaps);
  within : All (λ (h : Contents g.row.R.Denot). (length h.items ≤ h.cap) × (h.cap < 2 ^ 32)) (take l.leaf l.heaps);
}
