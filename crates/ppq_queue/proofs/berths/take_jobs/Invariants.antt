use Rattle.std.specs.Prelude.{vec_capacity}
use Rattle.std.proofs.Common.{◌≡◌, ℕ, ◌+◌, length, map, sum_by}
use Rattle.ppq_extract.specs.ppq_outside.Shown.{Shown}
use Rattle.ppq_spill.specs.Body.{job_slots}
use Rattle.ppq_queue.proofs.berths.take_jobs.Given as goal

abbrev pub invariant-loop-job : goal.invariant-loop-job
invariant-loop-job g l = record {
  sums : (f : Shown → ℕ) → sum_by f (map g.S.Slot.shown l.fn.slots.items) + sum_by f (job_slots g.S.Slot.shown l.fn.jobs.items) ≡ sum_by f (map g.S.Slot.shown l.slots.items) + sum_by f (job_slots g.S.Slot.shown l.jobs.items);
  count : length l.slots.items + length l.jobs.items ≡ length l.fn.slots.items + length l.fn.jobs.items;
  capacity : vec_capacity l.slots ≡ vec_capacity l.fn.slots;
}

abbrev pub decreases-loop-job : goal.decreases-loop-job
decreases-loop-job g l = length l.jobs.items
