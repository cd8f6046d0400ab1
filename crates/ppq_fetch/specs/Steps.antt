-- What a turn does to its runs: records leave their fronts, or a block is loaded.
use Rattle.std.specs.Prelude.{◌≡◌, ℕ, ◌+◌, ◌-◌, ◌*◌, ◌<◌, ◌≤◌, ◌^◌, List, [], ◌∷◌, ◌++◌, length, take, drop, map, All}
use Rattle.std.specs.declared.cmp.Ordering.{Ordering}
use Rattle.std.specs.List.{AllByRecursion as Each, AllZip}
use Rattle.ppq_array.specs.ppq_record.Order.{Ascends}
use Rattle.ppq_array.specs.ppq_record.Bag.{IsSameBag, front}
use Rattle.ppq_array.specs.ppq_record.Runs.{all_of}
use Rattle.ppq_array.specs.ppq_block.Block.{Block}
use Rattle.ppq_array.specs.ppq_outside.Shown.{Shown, Tells}
use Rattle.ppq_array.specs.declared.berth.DeviceBlock.{DeviceBlock}
use Rattle.ppq_array.specs.Run.{Run, run_of, items_of, buffers_of}
use Rattle.ppq_array.specs.External.{External, external, records_in}
use Rattle.ppq_array.specs.Supply.{Stock, GetsSlot}
use Rattle.ppq_array.specs.Owner.{HasBlock, HasSlot}
use Rattle.ppq_array.specs.Kept.{overread}
use Rattle.ppq_array.specs.Holdings.{internal_buffers, external_buffers, RunHasBlock}
use Rattle.ppq_merge.specs.ppq_split.Cut.{AreWithin, total}
use Rattle.ppq_fetch.specs.Bench.{Marks}
use Rattle.ppq_merge.specs.Parts.{before}
use Rattle.ppq_fetch.specs.Parts.{firsts, rests}
use Rattle.ppq_fetch.specs.Fetching.{one_if_some, count_in, fronts_in, IsFitting, loaded_lists}

-- Buffers went to the supply
pub record BuffersGiven (old new : Stock) : Type 0 where
  pub stock : new ≡ record old { sure_buffers = new.sure_buffers; buffer_room = new.buffer_room }
  pub sure : old.sure_buffers ≤ new.sure_buffers

module _ {R : Type 0} where
  -- The smallest records of those in front of the bounds were merged, of each run those up to its place
  pub record MergesSafe (cmp : R → R → Ordering) (bounds : List ℕ) (lists : List (List R)) (places : List ℕ) (out : List R) : Type 0 where
    pub within : AreWithin places (firsts bounds lists)
    pub bag : IsSameBag out (before places (firsts bounds lists))
    pub least : Each (Ascends cmp) (firsts bounds lists) → out ≡ front cmp (all_of (firsts bounds lists)) (length out)

  -- the lists that a merge writes over have the lengths that they had, and the bench its workers
  pub record SameRoom (xs ys : List R) (ps qs : List ℕ) (before now : Marks R) : Type 0 where
    pub out : length ys ≡ length xs
    pub places : length qs ≡ length ps
    pub bench : length now.places ≡ length before.places
    pub workers : now.workers ≡ before.workers

  -- there is an idle buffer; all are of one block size, and not too many
  pub record HasIdle (block : ℕ) (idle : List (Block R)) : Type 0 where
    pub some : 0 < length idle
    pub blocks : All (HasBlock block) idle
    pub few : length idle < 2 ^ 32 - 1

  -- A run in buffers lost its first records, and its spent buffers went to the supply
  pub record RunConsumed (place : ℕ) (old new : Run R) (before now : Stock) : Type 0 where
    pub items : items_of new ≡ drop place (items_of old)
    pub spent : new.spent ≡ []
    pub blocks : (block : ℕ) → RunHasBlock block old → RunHasBlock block new
    pub fitting : All IsFitting (buffers_of old) → All IsFitting (buffers_of new)
    pub buffers : length (buffers_of new) + before.buffer_room ≡ length (buffers_of old) + now.buffer_room
    pub given : BuffersGiven before now

  -- several did
  pub record RunsConsumed (places : List ℕ) (old new : List (Run R)) (before now : Stock) : Type 0 where
    pub each : length places ≡ length old
    pub long : length new ≡ length old
    pub items : map items_of new ≡ rests places (map items_of old)
    pub spent : Each (λ (run : Run R). run.spent ≡ []) new
    pub blocks : (block : ℕ) → Each (RunHasBlock block) old → Each (RunHasBlock block) new
    pub fitting : Each (λ (run : Run R). All IsFitting (buffers_of run)) old → Each (λ (run : Run R). All IsFitting (buffers_of run)) new
    pub buffers : internal_buffers new + before.buffer_room ≡ internal_buffers old + now.buffer_room
    pub given : BuffersGiven before now

module _ {S R : Type 0} where
  -- The next block of the run may be loaded into an idle buffer, and the supply take its slot
  pub record MayLoad (shown : S → Shown) (width : ℕ) (a : External S R) (buffers : List (Block R)) (stock : Stock) : Type 0 where
    pub stored : 0 < length a.stored
    pub none_lifted : a.lifted ≡ []
    pub idle : HasIdle stock.block buffers
    pub sizes : All (HasSlot shown (stock.block * width)) a.stored
    pub room : 0 < stock.slot_room
    pub few : length (buffers_of a.loaded) < 2 ^ 32 - 1

  -- the places say which records may be merged, as many as there are to be, and the numbers fit
  pub record MayMergeParts (internal : List (Run R)) (external : List (External S R)) (places : List ℕ) (bench : Marks R) (wanted : ℕ) : Type 0 where
    pub few_runs : length internal + length external < 2 ^ 32
    pub few_records : count_in internal external < 2 ^ 64
    pub within : AreWithin places (loaded_lists internal external)
    pub count : wanted ≤ total places
    pub bench_room : length internal + length external ≤ length bench.places

  -- A run in blocks lost its first loaded records, and its spent buffers are idle
  pub record ArrayConsumed (place : ℕ) (old new : External S R) (before now : List (Block R)) : Type 0 where
    pub rest : new ≡ external old.level new.loaded old.lifted old.stored
    pub items : items_of new.loaded ≡ drop place (items_of old.loaded)
    pub spent : new.loaded.spent ≡ []
    pub buffers : length (buffers_of new.loaded) + length now ≡ length (buffers_of old.loaded) + length before
    pub blocks : (block : ℕ) → Each (HasBlock block) before → RunHasBlock block old.loaded → Each (HasBlock block) now × RunHasBlock block new.loaded
    pub fitting : All IsFitting (buffers_of old.loaded) → All IsFitting (buffers_of new.loaded)
    -- where nothing is loaded any more, no buffer is
    pub bounded : length (buffers_of new.loaded) + one_if_some (items_of old.loaded) ≤ length (buffers_of old.loaded) + one_if_some (items_of new.loaded)

  -- but for what is loaded, the run is the same
  abbrev pub SameBlocks : External S R → External S R → Type 0
  SameBlocks old new = new ≡ external old.level new.loaded old.lifted old.stored

  -- several did
  pub record ArraysConsumed (places : List ℕ) (old new : List (External S R)) (before now : List (Block R)) : Type 0 where
    pub each : length places ≡ length old
    pub rest : AllZip SameBlocks old new
    pub items : map (λ (a : External S R). items_of a.loaded) new ≡ rests places (map (λ (a : External S R). items_of a.loaded) old)
    pub spent : Each (λ (a : External S R). a.loaded.spent ≡ []) new
    pub buffers : external_buffers new + length now ≡ external_buffers old + length before
    pub blocks : (block : ℕ) → Each (HasBlock block) before → Each (λ (a : External S R). RunHasBlock block a.loaded) old → Each (HasBlock block) now × Each (λ (a : External S R). RunHasBlock block a.loaded) new
    pub fitting : Each (λ (a : External S R). All IsFitting (buffers_of a.loaded)) old → Each (λ (a : External S R). All IsFitting (buffers_of a.loaded)) new
    pub bounded : external_buffers new + fronts_in old ≤ external_buffers old + fronts_in new

  -- Runs lost their first records, up to these places: those in buffers, and then those in blocks
  pub record AllConsumed (places : List ℕ) (internal internal' : List (Run R)) (external external' : List (External S R)) (idle idle' : List (Block R)) (stock stock' : Stock) : Type 0 where
    pub runs : RunsConsumed (take (length internal) places) internal internal' stock stock'
    pub arrays : ArraysConsumed (drop (length internal) places) external external' idle idle'

  module _ (record_of : List ℕ → R) (width : ℕ) (shown : S → Shown) where
    -- The slot of a block was read once, and went to the supply
    pub record SlotRead (block : DeviceBlock S R) (before now : Stock) : Type 0 where
      pub slot : Shown
      pub told : slot.told ≡ (shown block.slot).told
      pub number : slot.number ≡ (shown block.slot).number
      pub size : slot.size ≡ (shown block.slot).size
      pub faults : (shown block.slot).faults ≤ slot.faults
      pub writes : slot.writes ≡ (shown block.slot).writes
      pub least_reads : (shown block.slot).reads ≤ slot.reads
      pub reads : slot.reads ≤ (shown block.slot).reads + 1
      pub once : overread slot ≤ overread (shown block.slot)
      pub freed : GetsSlot before slot now

    -- The first stored block of a run was loaded into the first idle buffer
    pub record BlockLoaded (old new : External S R) (idle idle' : List (Block R)) (before now : Stock) : Type 0 where
      pub block : DeviceBlock S R
      pub buf : Block R
      pub filled : Block R
      pub stored : old.stored ≡ block ∷ new.stored
      pub taken : idle ≡ buf ∷ idle'
      pub room : filled.block ≡ buf.block
      pub count : length filled.items ≡ block.count
      pub some : 1 ≤ block.count
      pub fits : block.count * width ≤ (shown block.slot).size
      pub array : new ≡ external old.level (run_of (old.loaded.live ++ filled ∷ []) old.loaded.taken old.loaded.spent) [] new.stored
      pub items : items_of new.loaded ≡ items_of old.loaded ++ filled.items
      pub same : Tells (shown block.slot) → records_in record_of width shown new ≡ records_in record_of width shown old
      pub read : SlotRead block before now
      pub quiet : read.slot.faults ≡ (shown block.slot).faults

    -- The read failed: the block is lost to its run, and the buffer is idle again, after the others
    pub record BlockLost (number : ℕ) (old new : External S R) (idle idle' : List (Block R)) (before now : Stock) : Type 0 where
      pub block : DeviceBlock S R
      pub buf : Block R
      pub back : Block R
      pub left : List (Block R)
      pub stored : old.stored ≡ block ∷ new.stored
      pub taken : idle ≡ buf ∷ left
      pub returned : idle' ≡ left ++ back ∷ []
      pub room : back.block ≡ buf.block
      pub array : new ≡ external old.level old.loaded (block ∷ []) new.stored
      pub named : number ≡ (shown block.slot).number
      pub read : SlotRead block before now
      pub failed : 0 < read.slot.faults
