use Rattle.std.proofs.Common.{arith}
use Rattle.std.proofs.lemmas.Grind.{common_steps}
use Rattle.ppq_array.proofs.berth_list.take_last.Goals as goal

pub turn-requires : goal.turn-requires
turn-requires g c = grind arith

pub returns-in-Some : goal.returns-in-Some
returns-in-Some g c = grind (arith, common_steps)

pub returns-in-None : goal.returns-in-None
returns-in-None g c = grind arith
