use Rattle.std.proofs.Common.{◌≡◌, ◌+◌, ◌-◌, ◌<◌, length, reverse}
use Rattle.std.specs.List.{slice_get}
use Rattle.ppq_block.specs.Block.{all_items}
use Rattle.ppq_block.specs.Chain.{chain_items}
use Rattle.ppq_block.proofs.walk.from_end.Given as goal

abbrev pub invariant-loop-node : goal.invariant-loop-node
invariant-loop-node g l =
    (l.rest < length (all_items (reverse (chain_items l.node))))
    × (slice_get (all_items (reverse (chain_items l.node))) (length (all_items (reverse (chain_items l.node))) - (l.rest + 1))
    ≡ slice_get (all_items (reverse (chain_items l.chain))) (length (all_items (reverse (chain_items l.chain))) - (l.i + 1)))
