use Rattle.std.proofs.Common.{◌≡◌, length}
use Rattle.ppq_extract.proofs.extract.zero_records.Given as goal

abbrev pub invariant-loop-at : goal.invariant-loop-at
invariant-loop-at g l = length l.all.items ≡ l._at
