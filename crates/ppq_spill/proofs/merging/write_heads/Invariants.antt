use Rattle.std.proofs.Common.{◌≡◌, length}
use Rattle.ppq_spill.proofs.Heads.{HasHeadsTo}
use Rattle.ppq_spill.proofs.merging.write_heads.Given as goal

abbrev pub invariant-loop-leaf : goal.invariant-loop-leaf
invariant-loop-leaf g l = record {
  leaves : length l.tree.items ≡ length l.fn.tree.items;
  heads : HasHeadsTo l.leaf l.fn.internal l.fn.sorted l.tree.items;
}
