use Rattle.std.proofs.Common.{arith}
use Rattle.std.proofs.lemmas.Grind.{common_steps}
use Rattle.ppq_array.proofs.internal_array.InternalArray.consume.Goals as goal

pub overflow_add-gone : goal.overflow_add-gone
overflow_add-gone g c = grind (arith, common_steps)

pub retire-rest-requires : goal.retire-rest-requires
retire-rest-requires g c = grind (arith, common_steps)

pub overflow_sub-self : goal.overflow_sub-self
overflow_sub-self g c = assumption

pub overflow_sub-self-2 : goal.overflow_sub-self-2
overflow_sub-self-2 g c = grind arith

pub overflow_cast-self : goal.overflow_cast-self
overflow_cast-self g c = grind arith

pub invariant_of-self : goal.invariant_of-self
invariant_of-self g c = grind arith

pub returns : goal.returns
returns g c = grind (arith, common_steps)
