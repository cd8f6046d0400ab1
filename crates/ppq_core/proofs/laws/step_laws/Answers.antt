use Rattle.ppq_core.proofs.Reaching.{steps_show}
use Rattle.ppq_core.proofs.laws.step_laws.Goals as goal

pub returns : goal.returns
returns g c = steps_show _
