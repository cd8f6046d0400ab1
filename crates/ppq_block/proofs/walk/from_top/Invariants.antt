use Rattle.std.proofs.Common.{◌≡◌, ◌+◌, length}
use Rattle.std.specs.List.{slice_get}
use Rattle.ppq_block.specs.Block.{all_items}
use Rattle.ppq_block.specs.Chain.{chain_items}
use Rattle.ppq_block.proofs.walk.from_top.Given as goal

abbrev pub invariant-loop-node : goal.invariant-loop-node
invariant-loop-node g l =
    (slice_get (all_items (chain_items l.node)) l.rest ≡ slice_get (all_items (chain_items l.chain)) l.i)
    × (length (all_items (chain_items l.chain)) + l.rest ≡ length (all_items (chain_items l.node)) + l.i)
