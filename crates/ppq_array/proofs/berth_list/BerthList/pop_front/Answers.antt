use Rattle.std.proofs.Common.{arith}
use Rattle.std.proofs.lemmas.Grind.{common_steps}
use Rattle.ppq_array.proofs.berth_list.BerthList.pop_front.Goals as goal

pub invariant_of-self : goal.invariant_of-self
invariant_of-self g c = grind arith

pub overflow_sub-self : goal.overflow_sub-self
overflow_sub-self g c = grind arith

pub invariant_of-result : goal.invariant_of-result
invariant_of-result g c = grind arith

pub invariant_of-self-in-Some : goal.invariant_of-self-in-Some
invariant_of-self-in-Some g c = grind (arith, common_steps)

pub returns-in-None : goal.returns-in-None
returns-in-None g c = grind arith

pub returns-after-is_end : goal.returns-after-is_end
returns-after-is_end g c = grind (arith, common_steps)
