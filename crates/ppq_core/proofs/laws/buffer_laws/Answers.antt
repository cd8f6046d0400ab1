use Rattle.ppq_core.proofs.Buffers.{has_give_between}
use Rattle.ppq_core.proofs.laws.buffer_laws.Goals as goal

pub returns : goal.returns
returns g c = has_give_between _
