use Rattle.std.proofs.Common.{◌≡◌, ◌+◌, length, vec_capacity}
use Rattle.ppq_tree.proofs.apart.apart.Given as goal

abbrev pub invariant-loop-cell : goal.invariant-loop-cell
invariant-loop-cell g l = record { size : length l.all.items ≡ l._cell; capacity : vec_capacity l.all ≡ 32 + l.cells + 32 }
