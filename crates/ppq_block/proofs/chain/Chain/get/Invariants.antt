use Rattle.std.proofs.Common.{◌≡◌}
use Rattle.std.specs.List.{slice_get}
use Rattle.ppq_block.specs.Chain.{chain_items}
use Rattle.ppq_block.proofs.chain.Chain.get.Given as goal

abbrev pub invariant-loop-node : goal.invariant-loop-node
invariant-loop-node g l = slice_get (chain_items l.node) l.rest ≡ slice_get (chain_items l.self) l.i
