-- The runs of a queue between its calls.
use Rattle.std.specs.Prelude.{◌≡◌, ◌↔◌, ◌⊎◌, ◌==◌, cond, ℕ, zero, suc, ◌+◌, ◌*◌, ◌<◌, ◌≤◌, List, [], ◌++◌, length, max, sum_by, flat_map, All, vec_capacity}
use Rattle.std.specs.declared.cmp.Ordering.{Ordering}
use Rattle.ppq_heap.specs.ppq_record.Order.{Ascends}
use Rattle.ppq_heap.specs.ppq_record.Bag.{IsSameBag}
use Rattle.ppq_extract.specs.ppq_outside.Shown.{Shown, AllTell}
use Rattle.ppq_extract.specs.ppq_budget.Sizes.{Numbers, pool_of, lane_buffers}
use Rattle.ppq_extract.specs.ppq_array.declared.berth.DeviceBlock.{DeviceBlock}
use Rattle.ppq_extract.specs.ppq_array.Run.{Run, items_of, buffers_of}
use Rattle.ppq_extract.specs.ppq_array.External.{External, size_of, records_in, IsPacked}
use Rattle.ppq_extract.specs.ppq_array.Supply.{Stock}
use Rattle.ppq_extract.specs.ppq_array.Owner.{HasBlock}
use Rattle.ppq_extract.specs.ppq_array.Kept.{SameSlots, AreQuiet, all_writes}
use Rattle.ppq_extract.specs.ppq_array.Holdings.{internal_items, internal_buffers, external_buffers, RunHasBlock, HasSlots, CanTakeBack}
use Rattle.ppq_extract.specs.ppq_fetch.Fetching.{IsFitting, fronts_in, count_in}
use Rattle.ppq_extract.specs.ppq_fetch.Taking.{NoneAfter}
use Rattle.ppq_spill.specs.Body.{body_slots, held_by}
use Rattle.ppq_spill.specs.Leveling.{count_level}
use Rattle.ppq_spill.specs.declared.body.PassBody.{PassBody}

-- so few slots are free that a merge of a level or a store of so many records may want more
abbrev pub IsShort : Numbers → ℕ → ℕ → Type 0
IsShort sizes free records = (free < 8 + sizes.workers) ⊎ (free * sizes.block < records)

module _ {R : Type 0} where
  -- a run in buffers has a record, and no buffer that is spent; its buffers are of the block size
  pub record IsRestingRun (block : ℕ) (run : Run R) : Type 0 where
    pub some : 0 < length (items_of run)
    pub spent : run.spent ≡ []
    pub blocks : RunHasBlock block run
    pub fitting : All IsFitting (buffers_of run)

module _ {S R : Type 0} where
  -- how many records all runs have
  abbrev pub count_of : PassBody S R → ℕ
  count_of body = count_in body.runs.internal.items body.runs.external.items

  -- 1 of a run in blocks that is odd: its records do not just fill its stored blocks, as they do where nothing is loaded and all are full
  abbrev pub odd_of : ℕ → External S R → ℕ
  odd_of block a = cond (size_of a == length a.stored * block) 0 1

  -- how many runs in blocks of one level there are at the most, of the levels below this one, and of all
  unfoldable pub crowd_below : ℕ → List (External S R) → ℕ
  crowd_below zero arrays = 0
  crowd_below (suc level) arrays = max (count_level level arrays) (crowd_below level arrays)

  unfoldable pub crowd_of : List (External S R) → ℕ
  crowd_of arrays = crowd_below 8 arrays

  -- how many runs in blocks are odd
  abbrev pub odd_in : ℕ → List (External S R) → ℕ
  odd_in block arrays = sum_by (odd_of block) arrays

  module _ (shown : S → Shown) where
    -- all slots: those that the runs use, and the free ones
    abbrev pub slots_of : PassBody S R → Stock → List Shown
    slots_of body stock = body_slots shown body ++ stock.kept

    -- A run in blocks has a record. Its loaded blocks lie in buffers of the block size, none of them spent, and no block is on its way. Its
    -- stored blocks are full but the last, and each was written
    pub record IsRestingArray (width block : ℕ) (a : External S R) : Type 0 where
      pub some : 0 < size_of a
      pub level : a.level ≤ 7
      pub lifted : a.lifted ≡ []
      pub size : HasSlots shown (block * width) a
      pub loaded : RunHasBlock block a.loaded
      pub fitting : All IsFitting (buffers_of a.loaded)
      pub spent : a.loaded.spent ≡ []
      pub packed : IsPacked block a.stored
      pub written : All (λ (b : DeviceBlock S R). 1 ≤ (shown b.slot).writes) a.stored

    -- whatever is answered: no slot and no buffer is lost or made, slots go on telling, and all lists keep their room
    pub record BodyKept (old new : PassBody S R) (before now : Stock) : Type 0 where
      pub slots : SameSlots (slots_of old before) (slots_of new now)
      pub tells : AllTell (slots_of old before) ↔ AllTell (slots_of new now)
      pub writes : all_writes (slots_of old before) ≤ all_writes (slots_of new now)
      pub held : (held_by shown new).buffers + before.buffer_room ≡ (held_by shown old).buffers + now.buffer_room
      pub all_slots : length now.kept + now.slot_room ≡ length before.kept + before.slot_room
      pub all_buffers : now.sure_buffers + now.buffer_room ≡ before.sure_buffers + before.buffer_room
      pub block : now.block ≡ before.block
      pub internal_room : vec_capacity new.runs.internal ≡ vec_capacity old.runs.internal
      pub external_room : vec_capacity new.runs.external ≡ vec_capacity old.runs.external
      pub leaves : length new.tree.items ≡ length old.tree.items

    -- the records of all runs, as far as slots tell
    abbrev pub runs_bag : (List ℕ → R) → ℕ → PassBody S R → List R
    runs_bag record_of width body = internal_items body.runs.internal.items ++ flat_map (records_in record_of width shown) body.runs.external.items

    module _ (cmp : R → R → Ordering) (record_of : List ℕ → R) (width : ℕ) where
      -- each run ascends
      pub record AllRise (body : PassBody S R) : Type 0 where
        pub internal : All (λ (run : Run R). Ascends cmp (items_of run)) body.runs.internal.items
        pub external : All (λ (a : External S R). Ascends cmp (records_in record_of width shown a)) body.runs.external.items

      -- Each run rests, and where slots tell, it ascends. Buffers and slots are of one size, and the supply can take all back. Just as many
      -- buffers are idle or loaded as the lanes have; no more are loaded than one for each run that has something loaded and one for each
      -- worker. At most 65 of the runs in blocks are odd, and at most 64 have something loaded
      pub record AtRest (sizes : Numbers) (body : PassBody S R) (stock : Stock) : Type 0 where
        pub block : stock.block ≡ sizes.block
        pub idle : All (HasBlock stock.block) body.lanes.idle
        pub internal : All (IsRestingRun stock.block) body.runs.internal.items
        pub external : All (IsRestingArray width stock.block) body.runs.external.items
        pub takes_back : CanTakeBack shown stock body.runs.internal.items body.runs.external.items
        pub no_job : body.lanes.jobs.items ≡ []
        pub batch : length body.lanes.batch.items ≡ sizes.workers * stock.block
        pub buffers : length body.lanes.idle + external_buffers body.runs.external.items ≡ lane_buffers sizes
        pub held : internal_buffers body.runs.internal.items + external_buffers body.runs.external.items + length body.lanes.idle ≡ lane_buffers sizes + stock.buffer_room
        pub bounded : external_buffers body.runs.external.items ≤ fronts_in body.runs.external.items + sizes.workers
        pub fronts : fronts_in body.runs.external.items ≤ 64
        pub few : odd_in stock.block body.runs.external.items ≤ 65
        pub pool : stock.sure_buffers + stock.buffer_room ≡ pool_of sizes
        pub slots : length stock.kept + stock.slot_room ≡ sizes.blocks
        pub internal_room : pool_of sizes < vec_capacity body.runs.internal
        pub external_room : sizes.blocks + 66 ≤ vec_capacity body.runs.external
        pub leaves : pool_of sizes < length body.tree.items
        pub rise : AllTell (slots_of body stock) → AllRise body

      -- all runs rest, and hold what they held before, and these records more; no call of a slot failed
      pub record Moved (sizes : Numbers) (added : List R) (old new : PassBody S R) (before now : Stock) : Type 0 where
        pub rest : AtRest sizes new now
        pub quiet : AreQuiet (slots_of old before) (slots_of new now)
        pub bag : AllTell (slots_of old before) → IsSameBag (runs_bag record_of width new) (added ++ runs_bag record_of width old)
        pub count : count_of new ≡ length added + count_of old

      -- a merge of a level found too few free slots: fewer than it has loaded blocks
      pub record LevelShort (sizes : Numbers) (old new : PassBody S R) (before now : Stock) : Type 0 where
        pub moved : Moved sizes [] old new before now
        pub short : length now.kept < 8 + sizes.workers

      -- a run of so many records found too few free slots
      pub record StoreShort (sizes : Numbers) (n : ℕ) (old new : PassBody S R) (before now : Stock) : Type 0 where
        pub moved : Moved sizes [] old new before now
        pub short : length now.kept * sizes.block < n + count_of old

      -- The extract buffer has the smallest records of what it and the runs held, in order, and is empty only if no run is left
      pub record Readied (sizes : Numbers) (extract extract' : List R) (old new : PassBody S R) (before now : Stock) : Type 0 where
        pub rest : AtRest sizes new now
        pub quiet : AreQuiet (slots_of old before) (slots_of new now)
        pub bag : AllTell (slots_of old before) → IsSameBag (extract' ++ runs_bag record_of width new) (extract ++ runs_bag record_of width old)
        pub count : length extract' + count_of new ≡ length extract + count_of old
        pub ascends : AllTell (slots_of old before) → Ascends cmp extract'
        pub order : AllTell (slots_of old before) → NoneAfter cmp extract' (runs_bag record_of width new)
        pub some : extract' ≡ [] → count_of new ≡ 0
