use Rattle.std.specs.Prelude.{vec_capacity}
use Rattle.std.proofs.Common.{◌≡◌, ◌++◌, length, map, reverse}
use Rattle.ppq_spill.specs.Grouping.{slot_of, buf_of}
use Rattle.ppq_spill.proofs.groups.give_rest.Given as goal

abbrev pub invariant-loop-job : goal.invariant-loop-job
invariant-loop-job g l = record {
  idle : l.idle ++ map buf_of (reverse l.jobs.items) ≡ l.fn.idle ++ map buf_of (reverse l.fn.jobs.items);
  berths : l.berths ++ map slot_of (reverse l.jobs.items) ≡ l.fn.berths ++ map slot_of (reverse l.fn.jobs.items);
  capacity : vec_capacity l.jobs ≡ vec_capacity l.fn.jobs;
}

abbrev pub decreases-loop-job : goal.decreases-loop-job
decreases-loop-job g l = length l.jobs.items
