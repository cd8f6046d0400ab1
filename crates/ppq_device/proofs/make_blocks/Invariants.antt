use Rattle.std.proofs.Common.{◌≡◌, ◌*◌, length, map, All, vec_capacity}
use Rattle.std.specs.List.{range_with_len}
use Rattle.ppq_queue.specs.ppq_outside.Made.{HasMade}
use Rattle.ppq_queue.specs.ppq_outside.Shown.{Shown, AllTell}
use Rattle.ppq_queue.specs.Holding.{IsNewSlot}
use Rattle.ppq_device.proofs.make_blocks.Given as goal

abbrev pub invariant-making : goal.invariant-making
invariant-making g l = record {
  many : length l.blocks.items ≡ l.number;
  room : vec_capacity l.blocks ≡ l.fn.sizes.blocks;
  bytes : l.bytes ≡ l.fn.sizes.block * g.R.Record.WIDTH;
  new : All (IsNewSlot (l.fn.sizes.block * g.R.Record.WIDTH)) (map g.K.Slot.Slot.shown l.blocks.items);
  numbers : map (λ (slot : Shown). slot.number) (map g.K.Slot.Slot.shown l.blocks.items) ≡ range_with_len 0 l.number;
  made : HasMade (g.K.Rack.made l.fn.rack l.fn.device) (g.K.Rack.made l.rack l.fn.device) (range_with_len 0 l.number);
  tell : g.K.Rack.tells l.fn.rack → AllTell (map g.K.Slot.Slot.shown l.blocks.items);
  kept : g.K.Rack.tells l.fn.rack → g.K.Rack.tells l.rack;
  stays : g.K.Rack.faults l.rack ≡ g.K.Rack.faults l.fn.rack;
}
