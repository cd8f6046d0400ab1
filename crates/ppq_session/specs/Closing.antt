-- A session whose row and pool are closed.
use Rattle.std.specs.Prelude.{◌≡◌, ℕ, ◌+◌, ◌-◌, ◌*◌, ◌<◌, ◌≤◌, true, List, [], ◌++◌, length, drop, Option, All}
use Rattle.ppq_pass.specs.ppq_outside.Shown.{Shown}
use Rattle.ppq_pass.specs.ppq_table.Sums.{all_shares, times, once_below}
use Rattle.ppq_pass.specs.ppq_array.Owner.{HasSlot, slots_shown}
use Rattle.ppq_pass.specs.ppq_array.declared.berth.DeviceBlock.{DeviceBlock}
use Rattle.ppq_pass.specs.ppq_pool.Seats.{count_of as pool_count}
use Rattle.ppq_pass.specs.declared.shared.Shared.{Shared}
use Rattle.ppq_session.specs.declared.closed.Closed.{Closed}
use Rattle.ppq_session.specs.declared.parts.BulkParts.{BulkParts}

-- Row and pool can be closed: the seats are theirs and have all shares, and the supply has room for their slots and buffers
pub record MayClose {S R : Type 0} (shown : S → Shown) (width : ℕ) (p : BulkParts S R) (shared : Shared S R) : Type 0 where
  pub row : p.row_seat.row ≡ shared.row
  pub row_shares : p.row_seat.hand.shares ≡ all_shares
  pub few_slots : length p.row_seat.hand.items ≤ p.supply.slot_room
  pub bytes : All (HasSlot shown (p.supply.block * width)) p.row_seat.hand.items
  pub pool : p.pool_seat.pool ≡ shared.pool
  pub pool_shares : p.pool_seat.hand.shares ≡ all_shares
  pub few_buffers : pool_count p.pool_seat.pool ≤ p.supply.buffer_room
  pub shape : 0 < pool_count p.pool_seat.pool → p.pool_seat.hand.shape ≡ p.supply.block

module _ {S R : Type 0} (shown : S → Shown) where
  -- The free slots got those that no pass drew, and the idle buffers those that no pass took; nothing else changed
  pub record IsClosed (old : BulkParts S R) (failed : Option ℕ) (new : Closed S R) : Type 0 where
    pub left : List (DeviceBlock S R)
    pub left_is : left ≡ drop (length old.row_seat.hand.places) old.row_seat.hand.items
    pub each_once : (x : ℕ) → times x old.row_seat.hand.places ≡ once_below x (length old.row_seat.hand.places)
    pub noted : old.row_seat.hand.noted ≡ true → left ≡ []
    pub given : ℕ
    pub given_are : given + length old.pool_seat.hand.numbers ≡ pool_count old.pool_seat.pool
    pub supply : new.supply ≡ record old.supply { kept = old.supply.kept ++ slots_shown shown left; slot_room = old.supply.slot_room - length left; sure_buffers = old.supply.sure_buffers + given; buffer_room = old.supply.buffer_room - given }
    pub rest : new ≡ record { sizes = old.sizes; heaps = old.heaps; tree = old.tree; body = old.body; supply = new.supply; extract = old.extract; sources = old.sources; count = old.count; peak = old.peak; limited = old.limited; failed = failed; slots = old.slots; counts = old.counts }
