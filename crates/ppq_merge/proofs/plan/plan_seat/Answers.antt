use Rattle.std.proofs.Common.{arith}
use Rattle.std.proofs.lemmas.Grind.{common_steps}
use Rattle.ppq_merge.proofs.plan.plan_seat.Goals as goal

pub copy_used-requires : goal.copy_used-requires
copy_used-requires g c = omega arith

pub copy_front-requires : goal.copy_front-requires
copy_front-requires g c = omega arith

pub first_used-requires : goal.first_used-requires
first_used-requires g c = omega arith

pub returns : goal.returns
returns g c = record {
  piece = grind (arith, common_steps);
  cut = assumption;
  rises = grind (arith, common_steps);
  stays = grind (arith, common_steps);
}
