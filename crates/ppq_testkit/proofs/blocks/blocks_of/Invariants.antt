use Rattle.std.proofs.Common.{◌≡◌, ◌*◌, All, length, map}
use Rattle.ppq_outside.specs.MemoryDevice.{slot_shown}
use Rattle.ppq_queue.specs.Holding.{IsNewSlot}
use Rattle.ppq_testkit.proofs.blocks.blocks_of.Given as goal

abbrev pub invariant-loop-number : goal.invariant-loop-number
invariant-loop-number g l = record {
  count : length l.slots.items ≡ l.number;
  fresh : All (IsNewSlot (l.fn.sizes.block * g.R.Record.WIDTH)) (map slot_shown l.slots.items);
}
