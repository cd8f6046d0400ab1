use Rattle.std.proofs.Common.{◌≡◌, ◌+◌, ◌*◌, ◌/◌, ◌<◌, length}
use Rattle.ppq_tree.specs.Levels.{levels_above, leaf_level}
use Rattle.ppq_tree.specs.Tree.{IsTreeAbove}
use Rattle.ppq_tree.proofs.climb.climb.Given as goal

abbrev pub invariant-loop-node : goal.invariant-loop-node
invariant-loop-node g l =
    record {
      some : 0 < l.node;
      place : l.node < 2 * length l.items;
      tree : IsTreeAbove g.R.Ord.cmp l.items l.winners (l.node / 2);
      left : l.steps + levels_above l.node ≡ l.fn.steps + leaf_level (length l.items) l.leaf;
    }

abbrev pub decreases-loop-node : goal.decreases-loop-node
decreases-loop-node g l = l.node
