use Rattle.std.proofs.Common.{◌≡◌, ◌≤◌, take}
use Rattle.ppq_spill.specs.Leveling.{count_level}
use Rattle.ppq_queue.proofs.settle.count_at.Given as goal

abbrev pub invariant-loop-array : goal.invariant-loop-array
invariant-loop-array g l = record {
  value : l.count ≡ count_level l.level (take l.array-index l.arrays);
  few : l.count ≤ l.array-index;
}
