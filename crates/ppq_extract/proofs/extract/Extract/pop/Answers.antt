use Rattle.std.proofs.Common.{rules}
use Rattle.ppq_extract.proofs.Leaving.{popped}
use Rattle.ppq_extract.proofs.extract.Extract.pop.Goals as goal

pub returns-then-self-clause-rest : goal.returns-then-self-clause-rest
returns-then-self-clause-rest g c = search (rules, popped c.self.inside.from c.self.inside.to c.self.inside.records.items)
