use Rattle.std.proofs.Common.{◌≡◌, length, map, vec_capacity}
use Rattle.std.specs.List.{range_with_len}
use Rattle.ppq_words.specs.ppq_outside.Made.{HasMade}
use Rattle.ppq_words.specs.ppq_outside.Shown.{AllTell}
use Rattle.ppq_cli.specs.Device.{AreNew}
use Rattle.ppq_cli.proofs.device.make_blocks.Given as goal

abbrev pub invariant-loop-number : goal.invariant-loop-number
invariant-loop-number g l = record {
  many : length l.blocks.items ≡ l.number;
  room : vec_capacity l.blocks ≡ l.fn.count;
  new : AreNew l.fn.bytes (map g.K.Slot.Slot.shown l.blocks.items);
  made : HasMade (g.K.Rack.made l.fn.rack l.fn.device) (g.K.Rack.made l.rack l.fn.device) (range_with_len 0 (length l.blocks.items));
  tells : g.K.Rack.tells l.fn.rack → AllTell (map g.K.Slot.Slot.shown l.blocks.items);
  kept : g.K.Rack.tells l.fn.rack → g.K.Rack.tells l.rack;
  stays : g.K.Rack.faults l.rack ≡ g.K.Rack.faults l.fn.rack;
}
