use Rattle.std.proofs.Common.{◌≡◌, ◌+◌, ◌-◌, ◌≤◌, length}
use Rattle.ppq_tree.proofs.Tree.{IsPlayedFrom}
use Rattle.ppq_tree.proofs.matches.play_all.Given as goal

abbrev pub invariant-loop-node : goal.invariant-loop-node
invariant-loop-node g l =
    record {
      place : l.node ≤ length l.items;
      steps : l.steps + (l.node - 1) ≡ l.fn.steps + (length l.items - 1);
      tree : IsPlayedFrom g.R.Ord.cmp l.items l.winners l.node;
    }

abbrev pub decreases-loop-node : goal.decreases-loop-node
decreases-loop-node g l = l.node
