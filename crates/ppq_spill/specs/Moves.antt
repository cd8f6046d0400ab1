-- Slots and buffers that are taken from a supply and given back.
use Rattle.std.specs.Prelude.{◌≡◌, ℕ, ◌+◌, ◌-◌, ◌*◌, ◌<◌, ◌≤◌, ◌^◌, List, [], ◌++◌, length, All}
use Rattle.ppq_fetch.specs.ppq_block.Block.{Block, holding}
use Rattle.ppq_fetch.specs.ppq_outside.Shown.{Shown}
use Rattle.ppq_fetch.specs.ppq_outside.Told.{Rose}
use Rattle.ppq_fetch.specs.ppq_array.declared.berth.DeviceBlock.{DeviceBlock}
use Rattle.ppq_fetch.specs.ppq_array.Run.{Run, items_of, buffers_of}
use Rattle.ppq_fetch.specs.ppq_array.Supply.{Stock}
use Rattle.ppq_fetch.specs.ppq_array.Owner.{slots_shown, HasBlock, HasSlot}
use Rattle.ppq_fetch.specs.ppq_array.Kept.{SameSums}
use Rattle.ppq_fetch.specs.ppq_array.Holdings.{RunHasBlock}
use Rattle.ppq_fetch.specs.Fetching.{IsFitting}
use Rattle.ppq_spill.specs.Storing.{IsShortOfBuffers}

-- the supply with other buffers
abbrev pub with_buffers : Stock → ℕ → ℕ → Stock
with_buffers old sure room = record old { sure_buffers = sure; buffer_room = room }

module _ {R : Type 0} where
  -- these empty buffers were taken
  pub record TookBuffers (old new : Stock) (taken : List (Block R)) : Type 0 where
    pub empty : All (λ b. b ≡ holding old.block []) taken
    pub stock : new ≡ with_buffers old new.sure_buffers (old.buffer_room + length taken)
    pub sure : old.sure_buffers ≤ new.sure_buffers + length taken

  -- n records may be written into empty buffers: they are just as many as it takes
  pub record MayFill (block n : ℕ) (bufs : List (Block R)) : Type 0 where
    pub some : 1 ≤ block
    pub small : block ≤ 65536
    pub empty : All (λ b. b ≡ holding block []) bufs
    pub few : length bufs < 2 ^ 32 - 1
    pub room : n ≤ length bufs * block
    pub least : length bufs * block < n + block

  -- the records lie in so many buffers
  pub record IsFilled (block : ℕ) (records : List R) (count : ℕ) (run : Run R) : Type 0 where
    pub items : items_of run ≡ records
    pub unspent : run.spent ≡ []
    pub fitting : All IsFitting run.live
    pub blocks : All (HasBlock block) run.live
    pub buffers : length run.live ≡ count

  -- the records lie in buffers that were taken
  pub record FilledRun (sorted : List R) (old new : Stock) (run : Run R) : Type 0 where
    pub items : items_of run ≡ sorted
    pub blocks : RunHasBlock old.block run
    pub spent : run.spent ≡ []
    pub fitting : All IsFitting (buffers_of run)
    pub stock : new ≡ with_buffers old new.sure_buffers (old.buffer_room + length (buffers_of run))

-- A take answered None, before which fewer than so many buffers were taken; all went back
pub record FoundFewBuffers (need : ℕ) (old new : Stock) : Type 0 where
  pub counted : Rose old.scant new.scant
  pub unsure : old.sure_buffers < need
  pub few : new.room_when_scant - old.buffer_room < need
  pub stock : new ≡ record old { sure_buffers = new.sure_buffers; scant = new.scant; room_when_scant = new.room_when_scant }

-- the same, told by records
pub record FoundScant (n : ℕ) (old new : Stock) : Type 0 where
  pub short : IsShortOfBuffers n old new
  pub stock : new ≡ record old { sure_buffers = new.sure_buffers; scant = new.scant; room_when_scant = new.room_when_scant }

-- Slots were drawn in this order: those that the supply kept, from the first on, and then those that it drew from a row
pub record DrewInOrder (old new : Stock) (slots : List Shown) : Type 0 where
  pub fresh : List Shown
  pub drawn : new.drawn ≡ old.drawn ++ fresh
  pub order : old.kept ++ fresh ≡ slots ++ new.kept

module _ {S R : Type 0} where
  -- these slots were drawn
  pub record DrewSlots (shown : S → Shown) (width : ℕ) (old new : Stock) (berths : List (DeviceBlock S R)) : Type 0 where
    pub in_order : DrewInOrder old new (slots_shown shown berths)
    pub moved : SameSums (old.kept ++ new.drawn) (slots_shown shown berths ++ new.kept ++ old.drawn)
    pub sizes : All (HasSlot shown (old.block * width)) berths
    pub stock : new ≡ record old { kept = new.kept; drawn = new.drawn; slot_room = old.slot_room + length berths }
    pub sure : length old.kept ≤ length berths + length new.kept
    pub left : length new.kept ≡ length old.kept - length berths

-- A draw answered None, before which fewer than so many slots were drawn; all went back
pub record FoundFewSlots (need : ℕ) (old new : Stock) : Type 0 where
  pub moved : SameSums (old.kept ++ new.drawn) (new.kept ++ old.drawn)
  pub dry : Rose old.dry new.dry
  pub still : length old.kept ≤ length new.kept
  pub few : length new.kept < need
  pub stock : new ≡ record old { kept = new.kept; drawn = new.drawn; dry = new.dry }
