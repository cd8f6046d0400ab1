use Rattle.std.proofs.Common.{◌≡◌, ◌+◌, ◌-◌, ◌≤◌, ◌++◌, length}
use Rattle.ppq_spill.proofs.pair.free_all.Given as goal

abbrev pub invariant-loop-aside : goal.invariant-loop-aside
invariant-loop-aside g l =
    record {
      kept : (g.P.Supply.stock l.supply).kept ++ l.aside.kept ≡ (g.P.Supply.stock l.fn.supply).kept ++ l.fn.aside.kept;
      room : (g.P.Supply.stock l.supply).slot_room + length l.fn.aside.kept ≡ (g.P.Supply.stock l.fn.supply).slot_room + length l.aside.kept;
      fits : length l.aside.kept ≤ (g.P.Supply.stock l.supply).slot_room;
      stock : g.P.Supply.stock l.supply ≡ record (g.P.Supply.stock l.fn.supply) { kept = (g.P.Supply.stock l.supply).kept; slot_room = (g.P.Supply.stock l.supply).slot_room };
      block : l.aside.block ≡ (g.P.Supply.stock l.supply).block;
      home : g.P.Supply.home l.supply ≡ g.P.Supply.home l.fn.supply;
    }

abbrev pub decreases-loop-aside : goal.decreases-loop-aside
decreases-loop-aside g l = length l.aside.kept
