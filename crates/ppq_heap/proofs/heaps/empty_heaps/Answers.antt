use Rattle.std.proofs.Common.{arith}
use Rattle.std.proofs.lemmas.Grind.{common_steps}
use Rattle.ppq_heap.proofs.heaps.empty_heaps.Goals as goal

pub overflow_cast-workers : goal.overflow_cast-workers
overflow_cast-workers g c = omega arith

pub returns-in_err-heaps : goal.returns-in_err-heaps
returns-in_err-heaps g c = grind arith

pub loop-worker-init : goal.loop-worker-init
loop-worker-init g c = grind arith

pub returns-in_err-new : goal.returns-in_err-new
returns-in_err-new g c = grind arith

pub push_reserved-requires : goal.push_reserved-requires
push_reserved-requires g c = grind (arith, common_steps)

pub loop-worker-preserved : goal.loop-worker-preserved
loop-worker-preserved g c = grind (arith, common_steps)

pub returns : goal.returns
returns g c = grind arith
