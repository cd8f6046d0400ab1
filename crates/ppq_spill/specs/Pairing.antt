-- Two merges of a level side by side.
use Rattle.std.specs.Prelude.{◌≡◌, ℕ, ◌+◌, ◌-◌, ◌*◌, ◌<◌, ◌≤◌, ◌^◌, List, [], ◌∷◌, ◌++◌, length, take, drop, Result, Ok, Err, ⊤}
use Rattle.std.specs.declared.cmp.Ordering.{Ordering}
use Rattle.ppq_fetch.specs.ppq_outside.Shown.{Shown}
use Rattle.ppq_fetch.specs.ppq_lane.declared.lanes.Lanes.{Lanes}
use Rattle.ppq_fetch.specs.ppq_array.declared.berth.DeviceBlock.{DeviceBlock}
use Rattle.ppq_fetch.specs.ppq_array.declared.store_fault.StoreFault.{StoreFault}
use Rattle.ppq_fetch.specs.ppq_array.declared.store_fault.StoreFault.TheVariants.{NoFreeBlock, Device}
use Rattle.ppq_fetch.specs.ppq_array.External.{External}
use Rattle.ppq_fetch.specs.ppq_array.Holdings.{external_buffers}
use Rattle.ppq_fetch.specs.ppq_array.Kept.{Kept, all_writes}
use Rattle.ppq_fetch.specs.ppq_array.Supply.{Stock}
use Rattle.ppq_spill.specs.Costing.{LevelPays}
use Rattle.ppq_spill.specs.Leveling.{MayLevel, AreOneSize, LevelCalls, LevelMerged, LevelTells, LevelFailed, LanesStay, held_in, arrays_before, arrays_after}

-- how two merges end together: as the first that failed
abbrev pub ended : Result ⊤ StoreFault → Result ⊤ StoreFault → Result ⊤ StoreFault
ended (Ok value) two = two
ended (Err fault) two = Err fault

-- the supply with what is left of the slots of two merges
abbrev pub with_rest : Stock → List Shown → List Shown → List Shown → Stock
with_rest s first aside second = record s { kept = s.kept ++ first ++ aside ++ second; slot_room = s.slot_room - length first - length aside - length second }

module _ {S R : Type 0} where
  -- the arrays with the two new ones after them; where all is merged, without the last 16
  abbrev pub placed_pair : Result ⊤ StoreFault → List (External S R) → External S R → External S R → List (External S R)
  placed_pair (Ok value) arrays first second = take (length arrays - 16) arrays ++ first ∷ second ∷ []
  placed_pair (Err fault) arrays first second = arrays ++ first ∷ second ∷ []

  -- the last 16 of a list of arrays: the last 8 of them, and the 8 before these
  abbrev pub last_part : List (External S R) → List (External S R)
  last_part arrays = drop 8 (drop (length arrays - 16) arrays)

  abbrev pub part_before : List (External S R) → List (External S R)
  part_before arrays = take 8 (drop (length arrays - 16) arrays)

  -- and those in front of them
  abbrev pub all_but_sixteen : List (External S R) → List (External S R)
  all_but_sixteen arrays = take (length arrays - 16) arrays

  -- Two merges may run side by side: nothing is loaded, and there are buffers for both
  pub record MayPair (workers : ℕ) (arrays : List (External S R)) (lanes : Lanes (DeviceBlock S R) R) (stock : Stock) : Type 0 where
    pub none_loaded : external_buffers arrays ≡ 0
    pub buffers : 2 * workers + 18 ≤ length lanes.idle
    pub no_row : stock.drawn ≡ []

  module _ (cmp : R → R → Ordering) (record_of : List ℕ → R) (width : ℕ) (shown : S → Shown) (level workers : ℕ) where
    -- what the merge of 8 arrays of the level leaves
    pub record LevelStep (old new : List (External S R)) (lanes lanes' : Lanes (DeviceBlock S R) R) (before now : Stock) : Type 0 where
      pub kept : Kept before now (held_in shown old lanes) (held_in shown new lanes')
      pub tells : LevelTells shown old new before now
      pub calls : LevelCalls shown level old new before now
      pub counted : LevelPays shown {T = ⊤} (Ok tt) old new before now
      pub size : AreOneSize shown width new lanes' now
      pub again : MayLevel shown width workers new lanes' now
      pub merged : LevelMerged cmp record_of width shown level old new before now
      pub slots : length now.kept + now.slot_room ≡ length before.kept + before.slot_room

    -- 16 arrays of the level became two, as by two merges, one after the other
    pub record PairMerged (old new : List (External S R)) (lanes lanes' : Lanes (DeviceBlock S R) R) (before now : Stock) : Type 0 where
      pub mid : List (External S R)
      pub mid_lanes : Lanes (DeviceBlock S R) R
      pub mid_stock : Stock
      pub first : LevelStep old mid lanes mid_lanes before mid_stock
      pub second : LevelStep mid new mid_lanes lanes' mid_stock now
      pub lanes_stay : LanesStay lanes mid_lanes
      pub no_row : mid_stock.drawn ≡ []
      pub buffers : mid_stock.sure_buffers + mid_stock.buffer_room ≡ now.sure_buffers + now.buffer_room

  -- a read or write of one of them failed
  pub record PairStopped {T : Type 0} (shown : S → Shown) (result : Result T StoreFault) (old new : List (External S R)) (lanes lanes' : Lanes (DeviceBlock S R) R) (before now : Stock) : Type 0 where
    pub kept : Kept before now (held_in shown old lanes) (held_in shown new lanes')
    pub tells : LevelTells shown old new before now
    pub stay : all_writes (arrays_before shown old before now) ≤ all_writes (arrays_after shown new before now)
    pub counted : LevelPays shown result old new before now

  -- how two merges side by side end
  abbrev pub PairEnds : {T : Type 0} → (R → R → Ordering) → (List ℕ → R) → ℕ → (S → Shown) → ℕ → ℕ → Result T StoreFault → List (External S R) → List (External S R) → Lanes (DeviceBlock S R) R → Lanes (DeviceBlock S R) R → Stock → Stock → Type 0
  PairEnds cmp record_of width shown level workers (Ok value) old new lanes lanes' before now = PairMerged cmp record_of width shown level workers old new lanes lanes' before now
  PairEnds cmp record_of width shown level workers (Err NoFreeBlock) old new lanes lanes' before now = ⊥
  PairEnds {T} cmp record_of width shown level workers (Err (Device number)) old new lanes lanes' before now = PairStopped {T = T} shown (Err (Device number)) old new lanes lanes' before now × LevelFailed shown number new now
