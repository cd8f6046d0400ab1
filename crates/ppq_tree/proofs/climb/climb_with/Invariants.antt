use Rattle.std.proofs.Common.{◌≡◌, ◌+◌, ◌*◌, ◌/◌, ◌<◌, length}
use Rattle.ppq_tree.specs.Levels.{levels_above, leaf_level}
use Rattle.ppq_tree.specs.Tree.{winner_at, HasItem, IsTreeAbove}
use Rattle.ppq_tree.proofs.climb.climb_with.Given as goal

abbrev pub invariant-loop-child : goal.invariant-loop-child
invariant-loop-child g l =
    record {
      some : 0 < l.child;
      place : l.child < 2 * length l.items;
      tree : IsTreeAbove g.R.Ord.cmp l.items l.winners (l.child / 2);
      here : winner_at l.winners l.child ≡ l.best;
      item : HasItem l.items l.best l.best_item;
      left : l.steps + levels_above l.child ≡ l.fn.steps + leaf_level (length l.items) l.leaf;
    }

abbrev pub decreases-loop-child : goal.decreases-loop-child
decreases-loop-child g l = l.child
