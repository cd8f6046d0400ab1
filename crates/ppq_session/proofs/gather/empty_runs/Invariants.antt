use Rattle.std.proofs.Common.{◌≡◌, ◌+◌, length}
use Rattle.ppq_pass.specs.ppq_array.Holdings.{internal_buffers}
use Rattle.ppq_session.proofs.gather.empty_runs.Given as goal

abbrev pub invariant-emptying : goal.invariant-emptying
invariant-emptying g l = length l.idle + internal_buffers l.runs.items ≡ length l.fn.idle + internal_buffers l.fn.runs.items

abbrev pub decreases-emptying : goal.decreases-emptying
decreases-emptying g l = length l.runs.items
