use Rattle.std.proofs.Common.{ap₂, ◌∙◌, nat_lt}
use Rattle.ppq_record.proofs.Joined.{joined_less}
use Rattle.ppq_record.proofs.pair.PairRecord.is_less.Goals as goal

pub returns : goal.returns
returns c = ap₂ nat_lt c.joined.ensures.number c.joined-2.ensures.number ∙ joined_less c.args.self.now c.args.other.now c.joined.ensures.value c.joined-2.ensures.value
