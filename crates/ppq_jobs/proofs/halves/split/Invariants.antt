use Rattle.std.proofs.Common.{◌≡◌, ◌≤◌, ◌++◌, length, min, reverse}
use Rattle.std.specs.Prelude.{vec_capacity}
use Rattle.ppq_jobs.proofs.halves.split.Given as goal

abbrev pub invariant-moving : goal.invariant-moving
invariant-moving g l = record {
  all : l.first.items ++ reverse l.second.items ≡ l.fn.blocks.items;
  least : min l.half (length l.fn.blocks.items) ≤ length l.first.items;
  capacity : vec_capacity l.second ≡ vec_capacity l.fn.second;
}

abbrev pub decreases-moving : goal.decreases-moving
decreases-moving g l = length l.first.items
