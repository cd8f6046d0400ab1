use Rattle.ppq_engine.proofs.Bounds.{bounds}
use Rattle.ppq_engine.proofs.Orders.{laws_of}
use Rattle.ppq_script.specs.Words.{words}
use Rattle.ppq_engine.proofs.laws.load_laws.Goals as goal

pub returns : goal.returns
returns g c = let w = words g.R.PartialEq g.R.PartialOrd g.R.Ord g.R.Record g.R.Fields in let laws = laws_of w c.record_laws.ensures.order c.record_laws.ensures.same in
    λ workers given commands place long. bounds w laws given workers commands place long
