use Rattle.ppq_tree.proofs.Tree.{leaf_written_at}
use Rattle.ppq_tree.proofs.climb.write_leaf.Goals as goal

pub climb-requires-clause-tree : goal.climb-requires-clause-tree
climb-requires-clause-tree g c = leaf_written_at g.R.Ord.cmp c.args.items.now c.args.winners.now c.args.leaf c.args.item c.requires.leaf c.requires.tree

pub climb_with-requires-clause-tree : goal.climb_with-requires-clause-tree
climb_with-requires-clause-tree g c = leaf_written_at g.R.Ord.cmp c.args.items.now c.args.winners.now c.args.leaf c.args.item c.requires.leaf c.requires.tree
