use Rattle.std.proofs.Common.{◌≡◌, ◌-◌, ◌≤◌, ◌++◌, length}
use Rattle.ppq_spill.proofs.pair.lend.Given as goal

abbrev pub invariant-loop-idle : goal.invariant-loop-idle
invariant-loop-idle g l =
    record {
      idle : l.fn.lanes.idle ≡ l.idle ++ l.lanes.idle;
      few : length l.idle ≤ 10;
      rest : l.lanes ≡ record (l.fn.lanes) { idle = l.lanes.idle };
    }

abbrev pub decreases-loop-idle : goal.decreases-loop-idle
decreases-loop-idle g l = 10 - length l.idle
