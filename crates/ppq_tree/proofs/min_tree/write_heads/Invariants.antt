use Rattle.std.proofs.Common.{◌≡◌, ◌+◌, length, take, vec_capacity}
use Rattle.ppq_tree.specs.Used.{used}
use Rattle.ppq_tree.proofs.min_tree.write_heads.Given as goal

abbrev pub invariant-loop-leaf : goal.invariant-loop-leaf
invariant-loop-leaf g l =
    record {
      items : used l.items.items ≡ take l.leaf (g.H.Heads.heads l.heads);
      size : length l.items.items ≡ 32 + l.leaf;
      capacity : vec_capacity l.items ≡ vec_capacity l.fn.items;
    }
