use Rattle.std.proofs.Common.{◌≡◌, ◌+◌, All, length}
use Rattle.ppq_array.specs.Run.{run_of}
use Rattle.ppq_array.specs.Owner.{HasBlock}
use Rattle.ppq_fetch.specs.Steps.{BuffersGiven}
use Rattle.ppq_fetch.proofs.take.give_spent.Given as goal

abbrev pub invariant-loop-buf : goal.invariant-loop-buf
invariant-loop-buf g l =
    let now = g.P.Supply.stock l.supply in
    let old = g.P.Supply.stock l.fn.supply in
    record {
      run : l.run ≡ run_of l.fn.run.live l.fn.run.taken l.run.spent;
      given : BuffersGiven old now;
      room : now.buffer_room + length l.fn.run.spent ≡ old.buffer_room + length l.run.spent;
      blocks : All (HasBlock old.block) l.run.spent;
      home : g.P.Supply.home l.supply ≡ g.P.Supply.home l.fn.supply;
    }

abbrev pub decreases-loop-buf : goal.decreases-loop-buf
decreases-loop-buf g l = length l.run.spent
