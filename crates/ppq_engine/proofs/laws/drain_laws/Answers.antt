use Rattle.ppq_engine.proofs.Pops.{drains-as-pops}
use Rattle.ppq_engine.proofs.Orders.{laws_of}
use Rattle.ppq_script.specs.Words.{words}
use Rattle.ppq_engine.proofs.laws.drain_laws.Goals as goal

pub returns : goal.returns
returns g c = let w = words g.R.PartialEq g.R.PartialOrd g.R.Ord g.R.Record g.R.Fields in let laws = laws_of w c.record_laws.ensures.order c.record_laws.ensures.same in
    drains-as-pops w laws
