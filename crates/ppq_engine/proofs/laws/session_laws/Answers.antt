use Rattle.ppq_engine.proofs.Deferred.{agrees, agrees-all}
use Rattle.ppq_engine.proofs.Orders.{laws_of}
use Rattle.ppq_script.specs.Words.{words}
use Rattle.ppq_engine.proofs.laws.session_laws.Goals as goal

pub returns-clause-output : goal.returns-clause-output
returns-clause-output g c = let w = words g.R.PartialEq g.R.PartialOrd g.R.Ord g.R.Record g.R.Fields in let laws = laws_of w g.met.R.Ord.total g.met.R.Record.same in
    λ workers given commands place. (agrees-all w laws workers given commands place).output

pub returns-clause-load : goal.returns-clause-load
returns-clause-load g c = let w = words g.R.PartialEq g.R.PartialOrd g.R.Ord g.R.Record g.R.Fields in let laws = laws_of w g.met.R.Ord.total g.met.R.Record.same in
    λ workers given commands place. (agrees-all w laws workers given commands place).load

pub returns-clause-crest : goal.returns-clause-crest
returns-clause-crest g c = let w = words g.R.PartialEq g.R.PartialOrd g.R.Ord g.R.Record g.R.Fields in let laws = laws_of w g.met.R.Ord.total g.met.R.Record.same in
    λ workers given commands place. (agrees-all w laws workers given commands place).crest

pub returns-clause-prefixes : goal.returns-clause-prefixes
returns-clause-prefixes g c = let w = words g.R.PartialEq g.R.PartialOrd g.R.Ord g.R.Record g.R.Fields in let laws = laws_of w g.met.R.Ord.total g.met.R.Record.same in
    agrees w laws
