use Rattle.std.proofs.Common.{arith}
use Rattle.ppq_handler.proofs.Halves.{whole_part}
use Rattle.ppq_handler.proofs.round.answer_round.Goals as goal

pub answer_part-requires-clause-part : goal.answer_part-requires-clause-part
answer_part-requires-clause-part g c κs within = whole_part _ _ (omega arith) (omega arith) c.requires.roster
