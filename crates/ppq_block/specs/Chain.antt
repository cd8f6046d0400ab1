-- Nodes in boxes that are linked, as a list of what they hold.
use Rattle.std.specs.Prelude.{List, [], ◌∷◌}
use Rattle.ppq_block.specs.declared.chain.Chain.{Chain}
use Rattle.ppq_block.specs.declared.chain.Chain.TheVariants.{End, Link'}

-- what the nodes of a chain hold, from the top on
abbrev pub chain_items : {T : Type 0} → Chain T → List T
chain_items End = []
chain_items (Link' p item next) = item ∷ chain_items next
