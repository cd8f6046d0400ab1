use Rattle.std.proofs.Common.{arith}
use Rattle.std.proofs.lemmas.Grind.{common_steps}
use Rattle.ppq_merge.proofs.bench.merge_workers.Goals as goal

pub merge_by_seats-requires-clause-seats : goal.merge_by_seats-requires-clause-seats
merge_by_seats-requires-clause-seats g c κs within = grind arith

pub merge_by_seats-requires-clause-records : goal.merge_by_seats-requires-clause-records
merge_by_seats-requires-clause-records g c κs within = omega arith

pub invariant_of-bench : goal.invariant_of-bench
invariant_of-bench g c = grind (arith, common_steps)

pub returns : goal.returns
returns g c = record {
  workers = grind (arith, common_steps);
  size = grind (arith, common_steps);
  within = grind (arith, common_steps);
  adds_up = grind (arith, common_steps);
  rest = grind (arith, common_steps);
  bag = grind (arith, common_steps);
  cut = grind (arith, common_steps);
  front = grind arith;
}
