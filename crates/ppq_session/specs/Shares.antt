-- The free slots and the idle buffers of a supply, as a row and a pool.
use Rattle.std.specs.Prelude.{◌≡◌, ℕ, ◌+◌, ◌*◌, ◌^◌, ◌<◌, ◌≤◌, List, [], length, All}
use Rattle.atomic_table.specs.Seated.{TableId}
use Rattle.ppq_pass.specs.ppq_table.Sums.{all_shares}
use Rattle.ppq_pass.specs.ppq_outside.Shown.{Shown}
use Rattle.ppq_pass.specs.ppq_array.Supply.{Stock}
use Rattle.ppq_pass.specs.ppq_array.Owner.{slots_shown, HasSlot}
use Rattle.ppq_pass.specs.ppq_array.declared.berth.DeviceBlock.{DeviceBlock}
use Rattle.ppq_pass.specs.ppq_pool.Known.{Known as PoolKnown}
use Rattle.ppq_pass.specs.ppq_pool.Seats.{count_of}
use Rattle.ppq_pass.specs.ppq_row.Known.{Known as RowKnown}
use Rattle.ppq_pass.specs.declared.shared.PoolBuf.{PoolBuf}
use Rattle.ppq_session.specs.declared.share.FirstSeats.{FirstSeats}

-- a supply whose slots and buffers are all out
abbrev pub bare : Stock → Stock
bare old = record old { kept = []; slot_room = old.slot_room + length old.kept; sure_buffers = 0; buffer_room = old.buffer_room + old.sure_buffers }

-- an empty list has room for so many items, which are few
pub record IsRoomFor {X : Type 0} (count : ℕ) (list : List X) (capacity : ℕ) : Type 0 where
  pub none : list ≡ []
  pub room : count ≤ capacity
  pub few : count < 2 ^ 32

module _ {S R : Type 0} (shown : S → Shown) (width : ℕ) where
  -- a row of these slots of one size, and a seat that has all shares and has drawn nothing
  pub record IsFirstRow (kept : List Shown) (block : ℕ) (row : TableId) (seat : RowKnown (DeviceBlock S R)) : Type 0 where
    pub row_is : seat.row ≡ row
    pub shares : seat.hand.shares ≡ all_shares
    pub undrawn : seat.hand.places ≡ []
    pub items : slots_shown shown seat.hand.items ≡ kept
    pub bytes : All (HasSlot shown (block * width)) seat.hand.items

-- a pool of so many buffers of one size, and a seat that has all shares and has taken nothing
pub record IsFirstPool {R : Type 0} (count block : ℕ) (pool : TableId) (seat : PoolKnown (PoolBuf R)) : Type 0 where
  pub pool_is : seat.pool ≡ pool
  pub shares : seat.hand.shares ≡ all_shares
  pub untaken : seat.hand.numbers ≡ []
  pub count_is : count_of pool ≡ count
  pub shape : 0 < count_of pool → seat.hand.shape ≡ block

-- seats with all shares, of a row of the slots that the supply kept and of a pool of its idle buffers
pub record IsFirst {S R : Type 0} (shown : S → Shown) (width : ℕ) (old : Stock) (s : FirstSeats S R) : Type 0 where
  pub row : IsFirstRow shown width old.kept old.block s.shared.row s.row_seat
  pub pool : IsFirstPool old.sure_buffers old.block s.shared.pool s.pool_seat
