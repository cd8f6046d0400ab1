use Rattle.std.specs.Prelude.{vec_capacity}
use Rattle.std.proofs.Common.{◌≡◌, ◌+◌, [], length}
use Rattle.ppq_spill.specs.Choosing.{OnTree}
use Rattle.ppq_spill.specs.Writing.{block_in}
use Rattle.ppq_spill.specs.Grouping.{SameBeside, Underway}
use Rattle.ppq_spill.proofs.groups.write_groups.Given as goal

abbrev pub invariant-groups : goal.invariant-groups
invariant-groups g l = record {
  under : Underway g.R.Ord.cmp g.R.Record.record_of g.R.Record.WIDTH (block_in l.fn.body.lanes.idle) l.group g.S.Slot.shown l.sorted l.fn.body.runs.internal.items l.fn.body.lanes.idle l.fn.making.berths l.body l.making l.at l.filled;
  ready : OnTree l.sorted l.at l.body.runs.internal.items l.body.tree.items;
  leaves : length l.body.tree.items ≡ length l.fn.body.tree.items;
  capacity : vec_capacity l.body.runs.internal ≡ vec_capacity l.fn.body.runs.internal;
  beside : SameBeside l.fn.body l.body;
  no_job : l.jobs.items ≡ [];
  job_room : vec_capacity l.jobs ≡ vec_capacity l.fn.jobs;
}

abbrev pub decreases-groups : goal.decreases-groups
decreases-groups g l = length l.making.berths + length l.filled
