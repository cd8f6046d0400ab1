-- What a contract sees of a run in blocks.
use Rattle.std.specs.Prelude.{◌≡◌, ℕ, ◌+◌, ◌-◌, ◌*◌, ◌≤◌, ⊤, List, [], ◌∷◌, ◌++◌, length, take, Option, None, IsSome, sum_by, flat_map, All}
use Rattle.ppq_block.specs.ppq_record.Bag.{first_of}
use Rattle.ppq_block.specs.Block.{Block}
use Rattle.ppq_block.specs.Told.{records_told}
use Rattle.ppq_outside.specs.Shown.{Shown, Tells}
use Rattle.ppq_outside.specs.Told.{next_count}
use Rattle.ppq_array.specs.Run.{Run, items_of}
use Rattle.ppq_array.specs.declared.berth.DeviceBlock.{DeviceBlock}

-- A run in blocks: its level; its first blocks, which are loaded; then those that were lifted and not accepted yet, each as it left;
-- then those that are stored
pub record External (S R : Type 0) : Type 0 where
  pub level : ℕ
  pub loaded : Run R
  pub lifted : List (DeviceBlock S R)
  pub stored : List (DeviceBlock S R)

module _ {S R : Type 0} where
  abbrev pub external : ℕ → Run R → List (DeviceBlock S R) → List (DeviceBlock S R) → External S R
  external level loaded lifted stored = record { level = level; loaded = loaded; lifted = lifted; stored = stored }

  -- the blocks that are not loaded, in order
  abbrev pub waiting : External S R → List (DeviceBlock S R)
  waiting a = a.lifted ++ a.stored

  -- how many records blocks have
  abbrev pub counts : List (DeviceBlock S R) → ℕ
  counts blocks = sum_by (λ b. b.count) blocks

  -- how many records a run has
  abbrev pub size_of : External S R → ℕ
  size_of a = length (items_of a.loaded) + counts (waiting a)

  -- all blocks but the last are full
  pub record IsPacked (block : ℕ) (blocks : List (DeviceBlock S R)) : Type 0 where
    pub full : All (λ (b : DeviceBlock S R). b.count ≡ block) (take (length blocks - 1) blocks)
    pub last : All (λ (b : DeviceBlock S R). b.count ≤ block) blocks

  -- the first record of the first of these blocks, from its label
  abbrev pub next_of : List (DeviceBlock S R) → Option R
  next_of [] = None
  next_of (b ∷ bs) = b.minimum

  module _ (record_of : List ℕ → R) (width : ℕ) (shown : S → Shown) where
    -- the records of a block, where its slot tells
    abbrev pub block_items : DeviceBlock S R → List R
    block_items b = records_told record_of width b.count (shown b.slot).told

    abbrev pub blocks_items : List (DeviceBlock S R) → List R
    blocks_items blocks = flat_map block_items blocks

    -- the records of a run, as far as its slots tell
    abbrev pub records_in : External S R → List R
    records_in a = items_of a.loaded ++ blocks_items (waiting a)

    -- the buffer has as many records as the first of these blocks, and where its slot tells, just its records
    abbrev pub Accepts : List (DeviceBlock S R) → Block R → Type 0
    Accepts [] buf = ⊥
    Accepts (b ∷ bs) buf = (length buf.items ≡ b.count) × (Tells (shown b.slot) → buf.items ≡ block_items b)

    -- the first of these blocks tells
    abbrev pub FirstTells : List (DeviceBlock S R) → Type 0
    FirstTells [] = ⊤
    FirstTells (b ∷ bs) = Tells (shown b.slot)

    -- A block has a record and no more than fit in its slot; its label has its first record, which is the first that the slot holds, where
    -- that tells. Read once more, the slot still is read no more often than it was written
    pub record IsLabelled (b : DeviceBlock S R) : Type 0 where
      pub some : 1 ≤ b.count
      pub fits : b.count * width ≤ (shown b.slot).size
      pub labelled : IsSome b.minimum
      pub unread : next_count (shown b.slot).reads ≤ (shown b.slot).writes
      pub first : Tells (shown b.slot) → b.minimum ≡ first_of (block_items b)
