-- Runs as the sources of records, and what taking their smallest records does to them.
use Rattle.std.specs.Prelude.{◌≡◌, ◌↔◌, ℕ, ◌+◌, ◌-◌, ◌*◌, ◌<◌, ◌≤◌, ◌^◌, List, [], ◌∷◌, ◌++◌, length, map, drop, flat_map, sum_by, All, Option}
use Rattle.std.specs.declared.cmp.Ordering.{Ordering}
use Rattle.std.specs.List.{AllByRecursion as Each, AllZip}
use Rattle.ppq_array.specs.ppq_record.Order.{Ascends}
use Rattle.ppq_array.specs.ppq_record.Runs.{all_of}
use Rattle.ppq_array.specs.ppq_block.Block.{Block}
use Rattle.ppq_array.specs.ppq_outside.Shown.{Shown, AllTell}
use Rattle.ppq_array.specs.Run.{Run, items_of, buffers_of}
use Rattle.ppq_array.specs.External.{External, size_of, records_in, waiting, blocks_items}
use Rattle.ppq_array.specs.Supply.{Stock}
use Rattle.ppq_array.specs.Owner.{HasBlock}
use Rattle.ppq_array.specs.Kept.{Held, Kept, HasFailed, AreQuiet, all_writes, all_reads}
use Rattle.ppq_array.specs.Holdings.{external_slots, external_buffers, internal_buffers, RunHasBlock, HasSlots, CanTakeBack}
use Rattle.ppq_fetch.specs.Taking.{IsTaken, AllBelow}

-- What records are taken from: runs in buffers, runs in blocks, the idle buffers that blocks are loaded into, and the supply that gets
-- spent buffers and freed slots
pub record State (S R : Type 0) : Type 0 where
  pub internal : List (Run R)
  pub external : List (External S R)
  pub idle : List (Block R)
  pub stock : Stock

-- 1 of a list that is not empty
abbrev pub one_if_some : {X : Type 0} → List X → ℕ
one_if_some [] = 0
one_if_some (x ∷ xs) = 1

-- The slots were not written, and read at most so many times more
pub record MoreReads (most : ℕ) (before now : List Shown) : Type 0 where
  pub writes : all_writes now ≡ all_writes before
  pub reads : all_reads now ≤ all_reads before + most

-- The supply keeps so many slots more, after the others. It drew none, and gave no buffer
pub record StockWentOn (freed : ℕ) (old new : Stock) : Type 0 where
  pub more : List Shown
  pub kept : new.kept ≡ old.kept ++ more
  pub counted : length more ≡ freed
  pub drawn : new.drawn ≡ old.drawn
  pub sure : old.sure_buffers ≤ new.sure_buffers
  pub dry : new.dry ≡ old.dry
  pub scant : new.scant ≡ old.scant
  pub room_when_scant : new.room_when_scant ≡ old.room_when_scant

module _ {R : Type 0} where
  -- a buffer has no more records than it can hold
  abbrev pub IsFitting : Block R → Type 0
  IsFitting b = length b.items ≤ b.block

module _ {S R : Type 0} where
  abbrev pub state : List (Run R) → List (External S R) → List (Block R) → Stock → State S R
  state internal external idle stock = record { internal = internal; external = external; idle = idle; stock = stock }

  -- the loaded part of each run
  abbrev pub loaded_lists : List (Run R) → List (External S R) → List (List R)
  loaded_lists internal external = map items_of internal ++ map (λ a. items_of a.loaded) external

  -- how many records runs have
  abbrev pub count_in : List (Run R) → List (External S R) → ℕ
  count_in internal external = sum_by (λ run. length (items_of run)) internal + sum_by size_of external

  -- how many runs in blocks have something loaded
  abbrev pub fronts_in : List (External S R) → ℕ
  fronts_in arrays = sum_by (λ a. one_if_some (items_of a.loaded)) arrays

  -- how many blocks are stored
  abbrev pub blocks_in : List (External S R) → ℕ
  blocks_in arrays = sum_by (λ a. length a.stored) arrays

  -- Blocks of the run were loaded: its level is the same, the blocks that are stored now are the last of those that were, and it has no more
  -- records than it had
  pub record WentOn (old new : External S R) : Type 0 where
    pub level : new.level ≡ old.level
    pub loads : ℕ
    pub within : loads ≤ length old.stored
    pub stored : new.stored ≡ drop loads old.stored
    pub size : size_of new ≤ size_of old

  module _ (record_of : List ℕ → R) (width : ℕ) (shown : S → Shown) where
    -- the records of the blocks that are not loaded
    abbrev pub waiting_items : List (External S R) → List R
    waiting_items arrays = flat_map (λ a. blocks_items record_of width shown (waiting a)) arrays

    -- the sources: all records of the runs, as far as slots tell
    abbrev pub source_items : State S R → List R
    source_items s = all_of (loaded_lists s.internal s.external) ++ waiting_items s.external

    -- each run ascends
    pub record RunsRise (cmp : R → R → Ordering) (s : State S R) : Type 0 where
      pub internal : Each (λ (run : Run R). Ascends cmp (items_of run)) s.internal
      pub external : Each (λ a. Ascends cmp (records_in record_of width shown a)) s.external

  module _ (shown : S → Shown) where
    abbrev pub held_in : State S R → Held
    held_in s = record { slots = external_slots shown s.external; buffers = internal_buffers s.internal + external_buffers s.external + length s.idle }

    -- the slots of the runs and those that the supply keeps
    abbrev pub slots_in : State S R → List Shown
    slots_in s = external_slots shown s.external ++ s.stock.kept

    -- the slots of the sources tell
    abbrev pub SourcesTell : State S R → Type 0
    SourcesTell s = AllTell (external_slots shown s.external)

    -- What holds before and after, whatever the answer. All is of one block size; no buffer is spent; the supply can take all back; and the
    -- numbers fit. There is a buffer, idle or loaded, for the front of each run in blocks and so many ahead. No more are loaded than one a run
    -- that has something loaded, and so many ahead
    pub record AreSources (width ahead : ℕ) (s : State S R) : Type 0 where
      pub idle : All (HasBlock s.stock.block) s.idle
      pub internal : All (RunHasBlock s.stock.block) s.internal
      pub external : All (HasSlots shown (s.stock.block * width)) s.external
      pub loaded : All (λ a. RunHasBlock s.stock.block a.loaded) s.external
      pub internal_fitting : All (λ (run : Run R). All IsFitting (buffers_of run)) s.internal
      pub fitting : All (λ a. All IsFitting (buffers_of a.loaded)) s.external
      pub internal_spent : Each (λ (run : Run R). run.spent ≡ []) s.internal
      pub external_spent : Each (λ a. a.loaded.spent ≡ []) s.external
      pub takes_back : CanTakeBack shown s.stock s.internal s.external
      pub fronts : length s.external + ahead ≤ length s.idle + external_buffers s.external
      pub bounded : external_buffers s.external ≤ fronts_in s.external + ahead
      pub few_buffers : external_buffers s.external + length s.idle < 2 ^ 32 - 1
      pub few_runs : length s.internal + length s.external < 2 ^ 32
      pub few_records : count_in s.internal s.external < 2 ^ 64

    -- the same, and no block is lifted
    pub record MayFetch (width ahead : ℕ) (s : State S R) : Type 0 where
      pub sources : AreSources width ahead s
      pub none_lifted : Each (λ a. a.lifted ≡ []) s.external

    -- What holds of the parts from old to new, whatever the answer. No slot and no buffer is lost or made, and no count of a slot falls. Each
    -- block that is not stored any more was read once, its slot is kept by the supply, and no block was written
    pub record PartsKept (old new : State S R) : Type 0 where
      pub kept : Kept old.stock new.stock (held_in old) (held_in new)
      pub all_tell : AllTell (slots_in old) ↔ AllTell (slots_in new)
      pub internal : length new.internal ≡ length old.internal
      -- no more records are in buffers
      pub in_memory : sum_by (λ run. length (items_of run)) new.internal ≤ sum_by (λ run. length (items_of run)) old.internal
      -- as many buffers are idle and loaded
      pub buffers : length new.idle + external_buffers new.external ≡ length old.idle + external_buffers old.external
      pub went_on : AllZip WentOn old.external new.external
      pub stock : StockWentOn (blocks_in old.external - blocks_in new.external) old.stock new.stock
      pub transfers : MoreReads (blocks_in old.external - blocks_in new.external) (slots_in old) (slots_in new)

  module _ (cmp : R → R → Ordering) (record_of : List ℕ → R) (width : ℕ) (shown : S → Shown) where
    -- From old to new, out was taken of the sources, and no call of a slot failed; where slots tell and runs ascend, the records that are
    -- smallest, all below the limit
    pub record Fetched (below : Option R) (old new : State S R) (out : List R) : Type 0 where
      pub parts : PartsKept shown old new
      pub quiet : AreQuiet (slots_in shown old) (slots_in shown new)
      pub counted : length out + count_in new.internal new.external ≡ count_in old.internal old.external
      pub tell : SourcesTell shown old → SourcesTell shown new
      pub rise : SourcesTell shown old → RunsRise record_of width shown cmp old → RunsRise record_of width shown cmp new
      pub taken : SourcesTell shown old → RunsRise record_of width shown cmp old → IsTaken cmp (source_items record_of width shown old) out (source_items record_of width shown new)
      pub under : SourcesTell shown old → RunsRise record_of width shown cmp old → AllBelow cmp below out

  -- The read of a block failed, and its slot is among those that the supply keeps. The block's records are lost to its run, which still
  -- counts them, and those that were taken before; nothing else is lost
  pub record FetchFailed (shown : S → Shown) (number : ℕ) (old new : State S R) : Type 0 where
    pub parts : PartsKept shown old new
    pub failed : HasFailed number new.stock.kept
