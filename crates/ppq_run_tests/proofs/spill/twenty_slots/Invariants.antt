use Rattle.std.proofs.Common.{◌≡◌, ◌+◌}
use Rattle.ppq_run_tests.proofs.spill.twenty_slots.Given as goal

abbrev pub invariant-loop-number : goal.invariant-loop-number
invariant-loop-number g l = record {
  block : l.owner.block ≡ 2;
  room : l.owner.slot_room + l.number ≡ 20;
}
