use Rattle.std.proofs.Common.{◌≡◌, length, map, take}
use Rattle.ppq_fetch.specs.Plan.{IsMarked}
use Rattle.ppq_fetch.proofs.mark.mark_all.Given as goal

abbrev pub invariant-loop-i : goal.invariant-loop-i
invariant-loop-i g l = record {
  same : length l.places ≡ length l.fn.places;
  marked : IsMarked g.R.Ord.cmp l.edge (take l.i (map g.Q.Loaded.list l.runs)) (take l.i l.places) l.sum;
}
