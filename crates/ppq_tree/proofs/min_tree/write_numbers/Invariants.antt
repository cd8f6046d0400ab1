use Rattle.std.proofs.Common.{◌≡◌, ◌+◌, ◌<◌, ℕ, length, vec_capacity}
use Rattle.ppq_tree.specs.Used.{used}
use Rattle.ppq_tree.specs.Tree.{winner_at}
use Rattle.ppq_tree.proofs.min_tree.write_numbers.Given as goal

abbrev pub invariant-loop-node : goal.invariant-loop-node
invariant-loop-node l =
    record {
      size : length l.winners.items ≡ 32 + l._node;
      capacity : vec_capacity l.winners ≡ vec_capacity l.fn.winners;
    }

abbrev pub invariant-loop-leaf : goal.invariant-loop-leaf
invariant-loop-leaf l =
    record {
      size : length l.winners.items ≡ 32 + l.leaves + l.leaf;
      leaves : (i : ℕ) → i < l.leaf → winner_at (used l.winners.items) (l.leaves + i) ≡ i;
      capacity : vec_capacity l.winners ≡ vec_capacity l.fn.winners;
    }
