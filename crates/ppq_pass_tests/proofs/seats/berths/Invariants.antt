use Rattle.std.proofs.Common.{◌≡◌, All, length}
use Rattle.ppq_outside.specs.MemoryDevice.{slot_shown}
use Rattle.ppq_pass.specs.ppq_array.Owner.{HasSlot}
use Rattle.ppq_pass_tests.proofs.seats.berths.Given as goal

abbrev pub invariant-loop-number : goal.invariant-loop-number
invariant-loop-number g l = record {
  count : length l.berths.items ≡ l.number;
  bytes : All (HasSlot slot_shown 32) l.berths.items;
}
