use Rattle.std.proofs.Common.{arith}
use Rattle.ppq_tree.proofs.Levels.{leaf_level-bounds}
use Rattle.ppq_tree.proofs.min_tree.leaf_levels.Goals as goal

pub returns-clause-least : goal.returns-clause-least
returns-clause-least c leaves leaf h = (leaf_level-bounds leaves leaf h).0

pub returns-clause-most : goal.returns-clause-most
returns-clause-most c leaves leaf h = (leaf_level-bounds leaves leaf h).1

pub returns-clause-few : goal.returns-clause-few
returns-clause-few c leaves leaf h = let b = (leaf_level-bounds leaves leaf h).0 in omega arith
