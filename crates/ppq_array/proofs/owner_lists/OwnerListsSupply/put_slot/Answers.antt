use Rattle.std.proofs.Common.{arith}
use Rattle.std.proofs.lemmas.Grind.{common_steps}
use Rattle.ppq_array.proofs.owner_lists.OwnerListsSupply.put_slot.Goals as goal

pub push_back-requires : goal.push_back-requires
push_back-requires g c = omega arith

pub invariant_of-self : goal.invariant_of-self
invariant_of-self g c = grind (arith, common_steps)

pub same-self : goal.same-self
same-self g c = assumption

pub returns-in-Some : goal.returns-in-Some
returns-in-Some g c = grind (arith, common_steps)

pub returns-in_default : goal.returns-in_default
returns-in_default g c = grind arith
