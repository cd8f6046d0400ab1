use Rattle.std.proofs.Common.{arith}
use Rattle.std.proofs.lemmas.Grind.{common_steps}
use Rattle.ppq_merge.proofs.seat.merge_piece.Goals as goal

pub merge_used-requires-clause-from : goal.merge_used-requires-clause-from
merge_used-requires-clause-from g c κs within = omega arith

pub merge_used-requires-clause-to : goal.merge_used-requires-clause-to
merge_used-requires-clause-to g c κs within = omega arith

pub merge_used-requires-clause-between : goal.merge_used-requires-clause-between
merge_used-requires-clause-between g c κs within = grind arith

pub returns : goal.returns
returns g c = record { merge = grind arith; kept = grind (arith, common_steps) }
