-- What contracts see of a pass's supply.
use Rattle.std.specs.Prelude.{◌≡◌, ℕ, ◌+◌, ◌-◌, ◌*◌, ◌<◌, ◌≤◌, ◌^◌, Bool, true, false, List, [], ◌∷◌, ◌++◌, length, All, Vec, vec_capacity}
use mathlib.Core.Option.{Option, none, some}
use lib.ListN.{get_elem?}
use Rattle.std.specs.Global.{Global}
use Rattle.ppq_pool.specs.ppq_table.Sums.{times}
use Rattle.ppq_extract.specs.ppq_outside.Shown.{Shown}
use Rattle.ppq_extract.specs.ppq_array.Supply.{Stock}
use Rattle.ppq_extract.specs.ppq_array.Owner.{slots_shown, HasSlot}
use Rattle.ppq_extract.specs.ppq_array.declared.berth.DeviceBlock.{DeviceBlock}
use Rattle.ppq_row.specs.Known.{Known as RowKnown}
use Rattle.ppq_row.specs.Seats.{IsSeatOf as IsRowSeat}
use Rattle.ppq_pool.specs.Known.{Known as PoolKnown}
use Rattle.ppq_pool.specs.Seats.{IsSeatOf as IsPoolSeat, count_of}
use Rattle.ppq_pool.specs.declared.hand.Move.{Move}
use Rattle.ppq_pool.specs.declared.hand.Move.TheVariants.{Took, Gave, Saw}
use Rattle.ppq_pass.specs.declared.shared.Shared.{Shared}
use Rattle.ppq_pass.specs.declared.shared.PoolBuf.{PoolBuf}
use Rattle.ppq_pass.specs.declared.home.PassHome.{PassHome}

-- What the session shares, what its two seats know, what it shows as a supply. Of the time before it was made: whether a draw had answered
-- None, the places that its seat of the row had, and how many steps its seats had taken
pub record Passing (S R : Type 0) : Type 0 where
  pub home : Shared S R
  pub row_seat : RowKnown (DeviceBlock S R)
  pub pool_seat : PoolKnown (PoolBuf R)
  pub stock : Stock
  pub was_dry : Bool
  pub had_places : List ℕ
  pub had_steps : ℕ

-- what no call of a supply changes
abbrev pub home_of : {S R : Type 0} → Passing S R → PassHome S R
home_of p =
    record {
      shared = p.home;
      items = p.row_seat.hand.items;
      row_shares = p.row_seat.hand.shares;
      pool_shares = p.pool_seat.hand.shares;
      was_dry = p.was_dry;
      places = p.had_places;
      steps = p.had_steps;
    }

-- where a draw had answered None once, it is counted still
abbrev pub IsWasDry : Bool → ℕ → Type 0
IsWasDry was_dry dry = was_dry ≡ true → 0 < dry

module _ {S R : Type 0} where
  -- How many steps two seats took at what is shared. The seat of the pool has on its trail each take, each look at a buffer that was held,
  -- and each give; that of the row has a place for each draw, and a None for each draw that found the end. A draw, a take or a give that
  -- comes to a shared word adds one at least
  abbrev pub steps_of : RowKnown (DeviceBlock S R) → PoolKnown (PoolBuf R) → ℕ
  steps_of row pool = length pool.hand.trail + (length row.hand.places + row.hand.nones)

  -- since the seat of the row had these places, and both had taken so many steps, places were added behind these, and no step was lost
  pub record IsSince (had_places : List ℕ) (had_steps : ℕ) (row : RowKnown (DeviceBlock S R)) (pool : PoolKnown (PoolBuf R)) : Type 0 where
    pub more : List ℕ
    pub places : row.hand.places ≡ had_places ++ more
    pub steps : had_steps ≤ steps_of row pool

-- an item with those behind it, where there is one
abbrev pub with_item : {T : Type 0} → Option T → List T → List T
with_item none items = items
with_item (some x) items = x ∷ items

-- the items at these places
abbrev pub items_at : {T : Type 0} → List T → List ℕ → List T
items_at items [] = []
items_at items (p ∷ ps) = with_item (get_elem? items p) (items_at items ps)

-- how many looks at an item that was held are on a trail
abbrev pub looks_in : List Move → ℕ
looks_in [] = 0
looks_in (Took i ∷ trail) = looks_in trail
looks_in (Gave i ∷ trail) = looks_in trail
looks_in (Saw i ∷ trail) = looks_in trail + 1

module _ {S R : Type 0} (shown : S → Shown) where
  -- a stash, what two seats know, and the numbers of the buffers that are out, as a supply
  abbrev pub pass_stock : RowKnown (DeviceBlock S R) → List (DeviceBlock S R) → List ℕ → ℕ → ℕ → ℕ → ℕ → Stock
  pass_stock row_seat stash numbers block dry scant room_when_scant =
      record {
        block = block;
        kept = slots_shown shown stash;
        drawn = slots_shown shown (items_at row_seat.hand.items row_seat.hand.places);
        slot_room = length row_seat.hand.places - length stash;
        sure_buffers = 0;
        buffer_room = length numbers;
        dry = dry;
        scant = scant;
        room_when_scant = room_when_scant;
      }

  abbrev pub passing : Shared S R → RowKnown (DeviceBlock S R) → PoolKnown (PoolBuf R) → List (DeviceBlock S R) → List ℕ → ℕ → ℕ → ℕ → ℕ → Bool → List ℕ → ℕ → Passing S R
  passing home row_seat pool_seat stash numbers block dry scant room_when_scant was_dry had_places had_steps =
      record {
        home = home;
        row_seat = row_seat;
        pool_seat = pool_seat;
        stock = pass_stock row_seat stash numbers block dry scant room_when_scant;
        was_dry = was_dry;
        had_places = had_places;
        had_steps = had_steps;
      }

  -- The seats are of the session's row and pool; all slots and buffers are of one block size. No place of the row was drawn twice, and the
  -- stash has no more slots than were drawn. The numbers are those that the seat of the pool holds, each once, and there is room for all
  pub record IsPass (width : ℕ) (home : Shared S R) (row_seat : RowKnown (DeviceBlock S R)) (pool_seat : PoolKnown (PoolBuf R)) (stash : List (DeviceBlock S R)) (numbers : Vec ℕ Global) (block dry scant : ℕ) : Type 0 where
    pub row : IsRowSeat home.row row_seat
    pub items : All (HasSlot shown (block * width)) row_seat.hand.items
    pub few : length row_seat.hand.items < 2 ^ 32
    pub drawn : All (λ p. p < length row_seat.hand.items) row_seat.hand.places
    pub once : (n : ℕ) → All (λ p. p < n) row_seat.hand.places → length row_seat.hand.places ≤ n
    pub stash_fits : length stash ≤ length row_seat.hand.places
    pub stash_sizes : All (HasSlot shown (block * width)) stash
    pub pool : IsPoolSeat home.pool pool_seat
    pub shape : 0 < count_of home.pool → pool_seat.hand.shape ≡ block
    pub numbers_are : numbers.items ≡ pool_seat.hand.numbers
    pub below : All (λ i. i < count_of home.pool) numbers.items
    pub each_once : (i : ℕ) → times i numbers.items ≤ 1
    pub room : count_of home.pool ≤ vec_capacity numbers
    -- a draw that answered None noted the end of the row
    pub ended : 0 < dry → row_seat.hand.noted ≡ true
    -- each take that answered None looked at all buffers, and found each held
    pub looked : scant * count_of home.pool ≤ looks_in pool_seat.hand.trail

-- a pass that has drawn and taken nothing yet
abbrev pub new_pass : {S R : Type 0} → Shared S R → RowKnown (DeviceBlock S R) → PoolKnown (PoolBuf R) → ℕ → Passing S R
new_pass home row_seat pool_seat block =
    record {
      home = home;
      row_seat = row_seat;
      pool_seat = pool_seat;
      stock = record { block = block; kept = []; drawn = []; slot_room = 0; sure_buffers = 0; buffer_room = 0; dry = 0; scant = 0; room_when_scant = 0 };
      was_dry = false;
      had_places = row_seat.hand.places;
      had_steps = steps_of row_seat pool_seat;
    }
