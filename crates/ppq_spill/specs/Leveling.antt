-- What it takes to merge a level, and what stands afterwards.
use Rattle.std.specs.Prelude.{◌≡◌, ◌↔◌, ℕ, ◌+◌, ◌-◌, ◌*◌, ◌<◌, ◌≤◌, ◌^◌, ◌==◌, cond, min, List, [], ◌∷◌, ◌++◌, length, sum_by, flat_map, All, vec_capacity}
use Rattle.std.specs.List.Sorted.{IsPermutation}
use Rattle.std.specs.declared.cmp.Ordering.{Ordering}
use Rattle.ppq_fetch.specs.ppq_record.Order.{Ascends}
use Rattle.ppq_fetch.specs.ppq_record.Bag.{IsSameBag}
use Rattle.ppq_fetch.specs.ppq_outside.Shown.{Shown, AllTell}
use Rattle.ppq_fetch.specs.ppq_outside.Told.{Rose}
use Rattle.ppq_fetch.specs.ppq_lane.declared.lanes.Lanes.{Lanes}
use Rattle.ppq_fetch.specs.ppq_array.declared.berth.DeviceBlock.{DeviceBlock}
use Rattle.ppq_fetch.specs.ppq_array.Supply.{Stock, sure_slots}
use Rattle.ppq_fetch.specs.ppq_array.Owner.{HasBlock}
use Rattle.ppq_fetch.specs.ppq_array.Run.{run_of, buffers_of}
use Rattle.ppq_fetch.specs.ppq_array.External.{External, size_of, records_in, IsPacked}
use Rattle.ppq_fetch.specs.ppq_array.Kept.{Held, HasFailed, SameSums, AreQuiet, all_writes, all_reads}
use Rattle.ppq_fetch.specs.ppq_array.Holdings.{external_slots, external_buffers, RunHasBlock, HasSlots}
use Rattle.ppq_fetch.specs.Fetching.{IsFitting, fronts_in, blocks_in}
use Rattle.ppq_spill.specs.Body.{job_slots}

-- the slots were written at most so many times more, and not less often; and read at most so many times more
pub record MoreCalls (writes reads : ℕ) (before now : List Shown) : Type 0 where
  pub written : all_writes now ≤ all_writes before + writes
  pub stay : all_writes before ≤ all_writes now
  pub read : all_reads now ≤ all_reads before + reads

module _ {S R : Type 0} where
  -- the array has the level
  abbrev pub HasLevel : ℕ → External S R → Type 0
  HasLevel level a = a.level ≡ level

  -- how many arrays have the level
  abbrev pub count_level : ℕ → List (External S R) → ℕ
  count_level level arrays = sum_by (λ a. cond (a.level == level) 1 0) arrays

  -- how many records arrays have
  abbrev pub records_count : List (External S R) → ℕ
  records_count arrays = sum_by size_of arrays

  -- no job is left, and batch and room are as they were
  pub record LanesStay (old new : Lanes (DeviceBlock S R) R) : Type 0 where
    pub no_job : new.jobs.items ≡ []
    pub batch : length new.batch.items ≡ length old.batch.items
    pub room : vec_capacity new.jobs ≡ vec_capacity old.jobs

  -- Of the old arrays, 8 of the level are merged; the others stay as they are
  pub record EightOf (level : ℕ) (old inputs others : List (External S R)) : Type 0 where
    pub parted : IsPermutation old (others ++ inputs)
    pub eight : length inputs ≡ 8
    pub levels : All (HasLevel level) inputs

  module _ (shown : S → Shown) where
    -- what arrays and lanes hold
    abbrev pub held_in : List (External S R) → Lanes (DeviceBlock S R) R → Held
    held_in arrays lanes = record { slots = external_slots shown arrays ++ job_slots shown lanes.jobs.items; buffers = external_buffers arrays + (length lanes.idle + length lanes.jobs.items) }

    -- All buffers and slots of arrays and lanes are of one block size, and the supply can take the slots back
    pub record AreOneSize (width : ℕ) (arrays : List (External S R)) (lanes : Lanes (DeviceBlock S R) R) (stock : Stock) : Type 0 where
      pub some : 1 ≤ stock.block
      pub small : stock.block ≤ 65536
      pub idle : All (HasBlock stock.block) lanes.idle
      pub external : All (HasSlots shown (stock.block * width)) arrays
      pub loaded : All (λ (a : External S R). RunHasBlock stock.block a.loaded) arrays
      pub takes_back : length (external_slots shown arrays) ≤ stock.slot_room

    -- Between two merges: no block is lifted and no buffer spent; all blocks of an array but the last are full, and none has more records than
    -- fit. There are two buffers for each worker and 8 more, and a batch of a block for each worker. No more blocks are loaded than one for
    -- each array that has something loaded, and one for each worker. And the numbers fit
    pub record MayLevel (width workers : ℕ) (arrays : List (External S R)) (lanes : Lanes (DeviceBlock S R) R) (stock : Stock) : Type 0 where
      pub size : AreOneSize width arrays lanes stock
      pub lifted : All (λ (a : External S R). a.lifted ≡ []) arrays
      pub spent : All (λ (a : External S R). a.loaded.spent ≡ []) arrays
      pub fitting : All (λ (a : External S R). All IsFitting (buffers_of a.loaded)) arrays
      pub packed : All (λ (a : External S R). IsPacked stock.block a.stored) arrays
      pub buffers : 2 * workers + 8 ≤ length lanes.idle
      pub no_job : lanes.jobs.items ≡ []
      pub batch : length lanes.batch.items ≡ workers * stock.block
      pub bounded : external_buffers arrays ≤ fronts_in arrays + workers
      pub few_buffers : external_buffers arrays + length lanes.idle < 2 ^ 32 - 1
      pub few_blocks : blocks_in arrays + external_buffers arrays < 2 ^ 32 - 1
      pub few_records : records_count arrays < 2 ^ 64

    -- all slots of arrays and those that the supply keeps and gave: before a call, and after it
    abbrev pub arrays_before : List (External S R) → Stock → Stock → List Shown
    arrays_before arrays before now = external_slots shown arrays ++ before.kept ++ now.drawn

    abbrev pub arrays_after : List (External S R) → Stock → Stock → List Shown
    arrays_after arrays before now = external_slots shown arrays ++ now.kept ++ before.drawn

    -- the slots tell just where they told before
    abbrev pub LevelTells : List (External S R) → List (External S R) → Stock → Stock → Type 0
    LevelTells old new before now = AllTell (arrays_before old before now) ↔ AllTell (arrays_after new before now)

    -- no more blocks were written than the records of 8 arrays of the level take, and no more read than they had stored
    pub record LevelCalls (level : ℕ) (old new : List (External S R)) (before now : Stock) : Type 0 where
      pub inputs : List (External S R)
      pub others : List (External S R)
      pub of : EightOf level old inputs others
      pub blocks : ℕ
      pub few : blocks * before.block < records_count inputs + before.block
      pub calls : MoreCalls blocks (blocks_in inputs) (arrays_before old before now) (arrays_after new before now)

    -- too few slots were to be had, fewer than 8 arrays of the level have loaded blocks, before any of them was called; only the order of the
    -- arrays, which slots the supply keeps, and its counts have changed
    pub record NoneForLevel (level workers : ℕ) (old new : List (External S R)) (old_lanes new_lanes : Lanes (DeviceBlock S R) R) (before now : Stock) : Type 0 where
      pub inputs : List (External S R)
      pub others : List (External S R)
      pub of : EightOf level old inputs others
      pub arrays : new ≡ others ++ inputs
      pub untouched : SameSums (before.kept ++ now.drawn) (now.kept ++ before.drawn)
      pub dry : Rose before.dry now.dry
      pub unsure : sure_slots before < external_buffers inputs
      pub still : sure_slots before ≤ sure_slots now
      pub still_few : sure_slots now < external_buffers inputs
      -- as many as before, where the supply drew none from a row
      pub sure : sure_slots now + length before.drawn ≡ sure_slots before + length now.drawn
      pub bounded : external_buffers inputs ≤ 8 + workers
      pub idle : new_lanes.idle ≡ old_lanes.idle
      pub buffers : now.buffer_room ≡ before.buffer_room

  -- 8 arrays of the level became one of the next level, at most 7, with nothing loaded; the others stayed, and no call of a slot failed. Where
  -- slots tell, the new one has the records of the 8 in ascending order
  pub record LevelMerged (cmp : R → R → Ordering) (record_of : List ℕ → R) (width : ℕ) (shown : S → Shown) (level : ℕ) (old new : List (External S R)) (before now : Stock) : Type 0 where
    pub inputs : List (External S R)
    pub others : List (External S R)
    pub of : EightOf level old inputs others
    pub made : External S R
    pub quiet : AreQuiet (arrays_before shown old before now) (arrays_after shown new before now)
    pub arrays : new ≡ others ++ made ∷ []
    pub level_is : made.level ≡ min (level + 1) 7
    pub loaded : made.loaded ≡ run_of [] 0 []
    pub lifted : made.lifted ≡ []
    pub size : size_of made ≡ records_count inputs
    pub buffers : now.buffer_room ≡ before.buffer_room
    pub ascends : AllTell (arrays_before shown old before now) → Ascends cmp (records_in record_of width shown made)
    pub records : AllTell (arrays_before shown old before now) → IsSameBag (records_in record_of width shown made) (flat_map (records_in record_of width shown) inputs)
    pub blocks : length made.stored * before.block < size_of made + before.block
    pub packed : IsPacked before.block made.stored
    pub written : All (λ (b : DeviceBlock S R). 1 ≤ (shown b.slot).writes) made.stored

  -- where the slots tell, each array ascends
  abbrev pub ArraysAscend : (R → R → Ordering) → (List ℕ → R) → ℕ → (S → Shown) → List (External S R) → Stock → Type 0
  ArraysAscend cmp record_of width shown arrays stock = AllTell (external_slots shown arrays ++ stock.kept) → All (λ (a : External S R). Ascends cmp (records_in record_of width shown a)) arrays

  -- a slot with this number is in the arrays or kept by the supply, and a call of it failed
  abbrev pub LevelFailed : (S → Shown) → ℕ → List (External S R) → Stock → Type 0
  LevelFailed shown number arrays stock = HasFailed number (external_slots shown arrays ++ stock.kept)
