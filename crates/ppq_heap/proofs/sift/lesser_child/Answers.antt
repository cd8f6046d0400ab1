use Rattle.std.proofs.Common.{arith}
use Rattle.std.proofs.lemmas.Grind.{common_steps}
use Rattle.ppq_heap.proofs.sift.lesser_child.Goals as goal

pub overflow_mul-child : goal.overflow_mul-child
overflow_mul-child g c = omega arith

pub overflow_add-child : goal.overflow_add-child
overflow_add-child g c = omega arith

pub overflow_add-child-2 : goal.overflow_add-child-2
overflow_add-child-2 g c = omega arith

pub overflow_add-child-then-child-items : goal.overflow_add-child-then-child-items
overflow_add-child-then-child-items g c = omega arith

pub offset_bounds-items-child : goal.offset_bounds-items-child
offset_bounds-items-child g c = omega arith

pub bounds-items-child : goal.bounds-items-child
bounds-items-child g c = assumption

pub offset_bounds-items-child-then-child-items : goal.offset_bounds-items-child-then-child-items
offset_bounds-items-child-then-child-items g c = omega arith

pub bounds-items-child-then-child-items : goal.bounds-items-child-then-child-items
bounds-items-child-then-child-items g c = assumption

pub overflow_add-result : goal.overflow_add-result
overflow_add-result g c = omega arith

pub returns-then-is_less : goal.returns-then-is_less
returns-then-is_less g c = grind (arith, common_steps)

pub returns-else-child-items : goal.returns-else-child-items
returns-else-child-items g c = grind (arith, common_steps)
