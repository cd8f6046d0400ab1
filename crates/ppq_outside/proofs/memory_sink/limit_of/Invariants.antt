use Rattle.std.proofs.Common.{◌≡◌, drop, None}
use Rattle.ppq_outside.specs.MemorySink.{limit_from}
use Rattle.ppq_outside.proofs.memory_sink.limit_of.Given as goal

abbrev pub invariant-loop-planned : goal.invariant-loop-planned
invariant-loop-planned l = limit_from None l.plan l.put ≡ limit_from l.limit (drop l.planned-index l.plan) l.put
