-- The lists of one owner, as a supply.
use Rattle.std.specs.Prelude.{◌≡◌, ℕ, ◌+◌, ◌-◌, ◌*◌, ◌<◌, ◌≤◌, ◌^◌, List, [], length, map, All}
use Rattle.ppq_block.specs.Block.{Block}
use Rattle.ppq_outside.specs.Shown.{Shown}
use Rattle.ppq_array.specs.Supply.{Stock, IsSlot}
use Rattle.ppq_array.specs.declared.berth.DeviceBlock.{DeviceBlock}

-- the buffer can hold so many records
abbrev pub HasBlock : {R : Type 0} → ℕ → Block R → Type 0
HasBlock block b = b.block ≡ block

module _ {S R : Type 0} where
  -- what the slots of these blocks show
  abbrev pub slots_shown : (S → Shown) → List (DeviceBlock S R) → List Shown
  slots_shown shown blocks = map (λ b. shown b.slot) blocks

  -- the slot of the block has so many bytes, and was read no more often than it was written
  abbrev pub HasSlot : (S → Shown) → ℕ → DeviceBlock S R → Type 0
  HasSlot shown bytes b = IsSlot bytes (shown b.slot)

  -- what an owner's lists show: free slots, of so many, and idle buffers, of so many
  abbrev pub owner_stock : (S → Shown) → ℕ → List (DeviceBlock S R) → ℕ → List (Block R) → ℕ → ℕ → ℕ → ℕ → Stock
  owner_stock shown block slots all_slots buffers all_buffers dry scant room_when_scant =
      record {
        block = block;
        kept = slots_shown shown slots;
        drawn = [];
        slot_room = all_slots - length slots;
        sure_buffers = length buffers;
        buffer_room = all_buffers - length buffers;
        dry = dry;
        scant = scant;
        room_when_scant = room_when_scant;
      }

  -- no list has more than there are, and all are of one block size
  pub record IsOwner (shown : S → Shown) (width block : ℕ) (slots : List (DeviceBlock S R)) (all_slots : ℕ) (buffers : List (Block R)) (all_buffers : ℕ) : Type 0 where
    pub slots_fit : length slots ≤ all_slots
    pub few_slots : all_slots < 2 ^ 32 - 1
    pub sizes : All (HasSlot shown (block * width)) slots
    pub buffers_fit : length buffers ≤ all_buffers
    pub few_buffers : all_buffers < 2 ^ 32 - 1
    pub blocks : All (HasBlock block) buffers

-- an owner of so many slots and buffers that has none of them yet
abbrev pub new_owner : ℕ → ℕ → ℕ → Stock
new_owner block slots buffers = record { block = block; kept = []; drawn = []; slot_room = slots; sure_buffers = 0; buffer_room = buffers; dry = 0; scant = 0; room_when_scant = 0 }

-- how many slots an owner has, free or not, and how many buffers, idle or not
abbrev pub owner_home : Stock → ℕ × ℕ
owner_home o = (length o.kept + o.slot_room, o.sure_buffers + o.buffer_room)
