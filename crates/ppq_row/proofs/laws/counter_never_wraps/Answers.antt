use Rattle.ppq_row.proofs.Shown.{never_wraps}
use Rattle.ppq_row.proofs.laws.counter_never_wraps.Goals as goal

pub returns : goal.returns
returns g c = never_wraps _
