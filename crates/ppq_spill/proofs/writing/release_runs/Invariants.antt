use Rattle.std.specs.Prelude.{vec_capacity}
use Rattle.std.proofs.Common.{◌≡◌, ◌+◌, All, length}
use Rattle.ppq_fetch.specs.ppq_array.Holdings.{internal_buffers, RunHasBlock}
use Rattle.ppq_spill.specs.Moves.{with_buffers}
use Rattle.ppq_spill.proofs.writing.release_runs.Given as goal

abbrev pub invariant-loop-run : goal.invariant-loop-run
invariant-loop-run g l =
    let now = g.P.Supply.stock l.supply in
    let old = g.P.Supply.stock l.fn.supply in
    record {
      stock : now ≡ with_buffers old now.sure_buffers now.buffer_room;
      room : now.buffer_room + internal_buffers l.fn.internal.items ≡ old.buffer_room + internal_buffers l.internal.items;
      blocks : All (RunHasBlock old.block) l.internal.items;
      capacity : vec_capacity l.internal ≡ vec_capacity l.fn.internal;
      home : g.P.Supply.home l.supply ≡ g.P.Supply.home l.fn.supply;
    }

abbrev pub decreases-loop-run : goal.decreases-loop-run
decreases-loop-run g l = length l.internal.items
