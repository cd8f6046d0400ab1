use Rattle.std.specs.Prelude.{vec_capacity}
use Rattle.std.proofs.Common.{◌≡◌, ◌-◌, ◌<◌, ◌≤◌, All, length, take, map}
use Rattle.ppq_spill.specs.Grouping.{buf_of}
use Rattle.ppq_spill.specs.Staging.{Staged}
use Rattle.ppq_spill.proofs.turns.stage.Given as goal

abbrev pub invariant-loop-at : goal.invariant-loop-at
invariant-loop-at g l = record {
  staged : Staged g.R.Record.WIDTH l.fn.block g.S.Slot.shown (take l.at l.records) l.fn.idle l.idle l.fn.making.berths l.making.berths (g.P.Supply.stock l.fn.supply) (g.P.Supply.stock l.supply) l.jobs.items;
  full : l.at < length l.records → All (λ b. length b.items ≡ l.fn.block) (map buf_of l.jobs.items);
  within : l.at ≤ length l.records;
  capacity : vec_capacity l.jobs ≡ vec_capacity l.fn.jobs;
  made : l.making.made ≡ l.fn.making.made;
  home : g.P.Supply.home l.supply ≡ g.P.Supply.home l.fn.supply;
}

abbrev pub decreases-loop-at : goal.decreases-loop-at
decreases-loop-at g l = length l.records - l.at
