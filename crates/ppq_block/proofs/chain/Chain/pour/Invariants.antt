use Rattle.std.proofs.Common.{◌≡◌, ◌++◌, reverse, length}
use Rattle.ppq_block.specs.Chain.{chain_items}
use Rattle.ppq_block.proofs.chain.Chain.pour.Given as goal

abbrev pub invariant-loop-node : goal.invariant-loop-node
invariant-loop-node g l =
    reverse (chain_items l.self) ++ chain_items l.into ≡ reverse (chain_items l.initial.self) ++ chain_items l.initial.into

abbrev pub decreases-loop-node : goal.decreases-loop-node
decreases-loop-node g l = length (chain_items l.self)
