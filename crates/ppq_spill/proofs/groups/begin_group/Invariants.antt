use Rattle.std.specs.Prelude.{vec_capacity}
use Rattle.std.proofs.Common.{◌≡◌, ◌+◌, ◌≤◌, ◌++◌, All, length, map}
use Rattle.ppq_spill.specs.Grouping.{slot_of, buf_of, IsWrite}
use Rattle.ppq_spill.proofs.groups.begin_group.Given as goal

abbrev pub invariant-loop-buf : goal.invariant-loop-buf
invariant-loop-buf g l = record {
  slots : l.fn.berths ≡ map slot_of l.jobs.items ++ l.berths;
  bufs : l.fn.filled ≡ map buf_of l.jobs.items ++ l.filled;
  write : All IsWrite l.jobs.items;
  few : length l.filled ≤ length l.berths;
  room : length l.jobs.items + length l.filled ≤ vec_capacity l.jobs;
  capacity : vec_capacity l.jobs ≡ vec_capacity l.fn.jobs;
}

abbrev pub decreases-loop-buf : goal.decreases-loop-buf
decreases-loop-buf g l = length l.filled
