use Rattle.std.proofs.Common.{arith}
use Rattle.ppq_spill.proofs.Heads.{heads-all}
use Rattle.ppq_spill.proofs.merging.write_heads.Goals as goal

pub returns-clause-heads : goal.returns-clause-heads
returns-clause-heads g c = heads-all c.args.internal.now c.args.sorted.now c.loop-leaf.tree.items c.loop-leaf.leaf c.loop-leaf.invariant.heads (omega (arith, c.loop-leaf-test.false, c.loop-leaf.invariant.leaves, c.leaves-leaf-end.ensures)) (omega (arith, c.requires, c.loop-leaf.invariant.leaves))
