use Rattle.std.proofs.Common.{arith}
use Rattle.std.proofs.lemmas.Grind.{common_steps}
use Rattle.ppq_merge.proofs.alone.merge_by_first.Goals as goal

pub merge_smallest-requires-clause-ends : goal.merge_smallest-requires-clause-ends
merge_smallest-requires-clause-ends g c κs within = omega arith

pub returns : goal.returns
returns g c = record { merged = assumption; kept = grind (arith, common_steps) }
