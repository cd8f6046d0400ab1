use Rattle.std.proofs.Common.{◌≡◌}
use Rattle.ppq_array.proofs.external_array.ExternalArray.announce.Given as goal

abbrev pub invariant-loop-block : goal.invariant-loop-block
invariant-loop-block g l = l.self ≡ l.fn.self
