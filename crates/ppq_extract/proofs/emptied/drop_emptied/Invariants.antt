use Rattle.std.proofs.Common.{◌≡◌, ◌<◌, ◌≤◌, length, vec_capacity, All}
use Rattle.std.specs.List.{AllWithin}
use Rattle.ppq_extract.specs.Emptied.{LostOnly}
use Rattle.ppq_extract.proofs.emptied.drop_emptied.Given as goal

abbrev pub invariant-loop-at : goal.invariant-loop-at
invariant-loop-at g l = record {
  within : l.at ≤ length l.runs.items;
  settled : All g.Q.Emptied.is_settled l.runs.items;
  lost : LostOnly g.Q.Emptied.is_empty l.fn.runs.items l.runs.items;
  after : AllWithin (λ (q : g.row.Q.Denot). 0 < g.Q.Emptied.size q) l.runs.items l.at (length l.runs.items);
  room : vec_capacity l.runs ≡ vec_capacity l.fn.runs;
}

abbrev pub decreases-loop-at : goal.decreases-loop-at
decreases-loop-at g l = l.at
