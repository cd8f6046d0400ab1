use Rattle.std.proofs.Common.{◌≡◌, ◌+◌, [], length}
use Rattle.ppq_pass.specs.ppq_array.Run.{buffers_of}
use Rattle.ppq_session.proofs.gather.empty_loaded.Given as goal

abbrev pub invariant-emptying : goal.invariant-emptying
invariant-emptying g l = record {
  count : length l.idle + length l.array.loaded.spent ≡ length l.fn.idle + length (buffers_of l.fn.array.loaded);
  live : l.array.loaded.live ≡ [];
  stored : l.array.stored ≡ l.fn.array.stored;
}

abbrev pub decreases-emptying : goal.decreases-emptying
decreases-emptying g l = length l.array.loaded.spent
