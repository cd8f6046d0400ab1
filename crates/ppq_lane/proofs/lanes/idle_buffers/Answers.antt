use Rattle.std.proofs.Common.{arith}
use Rattle.std.proofs.lemmas.Grind.{common_steps}
use Rattle.ppq_lane.proofs.lanes.idle_buffers.Goals as goal

pub loop-count-init : goal.loop-count-init
loop-count-init g c = grind arith

pub returns-in_err-new : goal.returns-in_err-new
returns-in_err-new g c = grind arith

pub push_back-requires : goal.push_back-requires
push_back-requires g c = omega arith

pub loop-count-preserved : goal.loop-count-preserved
loop-count-preserved g c = grind (arith, common_steps)

pub returns : goal.returns
returns g c = grind arith
