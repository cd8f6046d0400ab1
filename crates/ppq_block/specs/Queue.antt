-- Two chains as a queue: the first items from the top of one on, the last from the top of the other back.
use Rattle.std.specs.Prelude.{◌≡◌, ℕ, ◌+◌, List, [], ◌++◌, length, reverse}
use Rattle.ppq_block.specs.declared.chain.Chain.{Chain}
use Rattle.ppq_block.specs.Chain.{chain_items}

abbrev pub queued : {T : Type 0} → Chain T → Chain T → List T
queued front back = chain_items front ++ reverse (chain_items back)

-- it knows its length, and the first item is on top of the first chain
pub record IsQueue {T : Type 0} (front back : Chain T) (len : ℕ) : Type 0 where
  pub counted : len ≡ length (chain_items front) + length (chain_items back)
  pub first : chain_items front ≡ [] → chain_items back ≡ []
