use Rattle.std.proofs.Common.{◌≡◌, ◌++◌, drop}
use Rattle.ppq_outside.specs.Plan.{calls_of}
use Rattle.ppq_outside.proofs.memory_rack.calls_of_block.Given as goal

abbrev pub invariant-loop-block : goal.invariant-loop-block
invariant-loop-block l = calls_of l.calls l.number ≡ l.plan.items ++ calls_of (drop l.block-index l.calls) l.number
