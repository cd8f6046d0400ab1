use Rattle.ppq_core.proofs.Trade.{neighbours_trade}
use Rattle.ppq_core.proofs.laws.order_laws.Goals as goal

pub returns : goal.returns
returns g c = neighbours_trade _
