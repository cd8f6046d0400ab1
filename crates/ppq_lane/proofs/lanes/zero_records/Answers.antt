use Rattle.std.proofs.Common.{arith}
use Rattle.std.proofs.lemmas.Grind.{common_steps}
use Rattle.ppq_lane.proofs.lanes.zero_records.Goals as goal

pub WIDTH-requires : goal.WIDTH-requires
WIDTH-requires g c = assumption

pub returns-in_err-zeros : goal.returns-in_err-zeros
returns-in_err-zeros g c = grind arith

pub take-zero-requires : goal.take-zero-requires
take-zero-requires g c = grind arith

pub returns-in_err-all : goal.returns-in_err-all
returns-in_err-all g c = grind arith

pub loop-at-init : goal.loop-at-init
loop-at-init g c = grind arith

pub returns-in_err-push : goal.returns-in_err-push
returns-in_err-push g c = grind arith

pub loop-at-preserved : goal.loop-at-preserved
loop-at-preserved g c = grind (arith, common_steps)

pub returns : goal.returns
returns g c = grind arith
