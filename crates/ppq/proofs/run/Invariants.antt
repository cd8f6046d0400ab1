-- The roster has as many places as were passed.
use Rattle.std.proofs.Common.{◌≡◌, length}
use Rattle.ppq.proofs.run.Given as goal

abbrev pub invariant-places : goal.invariant-places
invariant-places g l = length l.roster.items ≡ l.place
