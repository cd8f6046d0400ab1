use Rattle.std.specs.Prelude.{vec_capacity}
use Rattle.std.proofs.Common.{◌≡◌, ◌+◌, [], All, length}
use Rattle.ppq_fetch.specs.ppq_array.External.{size_of}
use Rattle.ppq_spill.specs.Grouping.{Taking, CanEnd, items_in}
use Rattle.ppq_spill.proofs.groups.append_written.Given as goal

abbrev pub invariant-loop-job : goal.invariant-loop-job
invariant-loop-job g l = record {
  taking : Taking l.fn.jobs.items l.jobs.items l.fn.idle l.idle l.fn.array l.array;
  can : All (CanEnd g.R.Record.record_of g.R.Record.WIDTH g.S.Slot.shown) l.jobs.items;
  idle : length l.idle + length l.jobs.items ≡ length l.fn.idle + length l.fn.jobs.items;
  stored : length l.array.stored + length l.jobs.items ≡ length l.fn.array.stored + length l.fn.jobs.items;
  size : size_of l.array + items_in l.jobs.items ≡ size_of l.fn.array + items_in l.fn.jobs.items;
  none_lifted : l.array.lifted ≡ [];
  capacity : vec_capacity l.jobs ≡ vec_capacity l.fn.jobs;
}

abbrev pub decreases-loop-job : goal.decreases-loop-job
decreases-loop-job g l = length l.jobs.items
