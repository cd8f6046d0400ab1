use Rattle.std.proofs.Common.{◌≡◌, ◌+◌, ◌*◌, ◌≤◌, length}
use Rattle.ppq_block.specs.Block.{all_items}
use Rattle.ppq_block.specs.Chain.{chain_items}
use Rattle.ppq_block.proofs.walk.records.Given as goal

abbrev pub invariant-loop-node : goal.invariant-loop-node
invariant-loop-node g l =
    (l.total + length (all_items (chain_items l.node)) ≡ length (all_items (chain_items l.chain)))
    × (l.total + length (chain_items l.node) * 4294967295 ≤ 4294967295 * 4294967295)
