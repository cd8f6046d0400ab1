use Rattle.std.proofs.Common.{◌*◌, ◌/◌, take}
use Rattle.std.specs.Prelude.{All}
use Rattle.ppq_merge.specs.Plan.{IsPlanned}
use Rattle.ppq_merge.specs.Seat.{IsSized}
use Rattle.ppq_merge.proofs.plan.plan_cuts.Given as goal

abbrev pub invariant-loop-worker : goal.invariant-loop-worker
invariant-loop-worker g l = record {
  sized : All (IsSized l.leaves) l.seats;
  planned : IsPlanned g.R.Ord.cmp (g.Q.Listing.lists l.runs) l.fn.carry (take l.worker l.seats) l.carry (l.count * l.worker / l.workers) l.ok;
}
