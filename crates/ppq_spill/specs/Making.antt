-- Blocks that are made of records, one after the other, and merged arrays that give the records.
use Rattle.std.specs.Prelude.{◌≡◌, ℕ, ◌+◌, ◌-◌, ◌*◌, ◌<◌, ◌≤◌, ◌^◌, List, [], ◌∷◌, ◌++◌, length, take, drop, sum_by, All, Result, Ok, Err, vec_capacity}
use Rattle.std.specs.declared.cmp.Ordering.{Ordering}
use Rattle.ppq_fetch.specs.ppq_record.Order.{Ascends}
use Rattle.ppq_fetch.specs.ppq_record.Bag.{IsSameBag}
use Rattle.ppq_fetch.specs.ppq_block.Block.{Block}
use Rattle.ppq_fetch.specs.ppq_outside.Shown.{Shown, AllTell}
use Rattle.ppq_fetch.specs.ppq_array.declared.berth.DeviceBlock.{DeviceBlock}
use Rattle.ppq_fetch.specs.ppq_array.declared.store_fault.StoreFault.{StoreFault}
use Rattle.ppq_fetch.specs.ppq_array.declared.store_fault.StoreFault.TheVariants.{NoFreeBlock, Device}
use Rattle.ppq_fetch.specs.ppq_array.Supply.{Stock}
use Rattle.ppq_fetch.specs.ppq_array.Owner.{slots_shown, HasSlot, HasBlock}
use Rattle.ppq_fetch.specs.ppq_array.Run.{run_of, items_of, buffers_of}
use Rattle.ppq_fetch.specs.ppq_array.External.{External, external, size_of, counts, records_in, blocks_items, IsPacked}
use Rattle.ppq_fetch.specs.ppq_array.Kept.{HasFailed, AreQuiet}
use Rattle.ppq_fetch.specs.ppq_array.Holdings.{external_slots, external_buffers, RunHasBlock, HasSlots}
use Rattle.ppq_fetch.specs.Fetching.{state, source_items, MayFetch, RunsRise, blocks_in, count_in}
use Rattle.ppq_fetch.specs.ppq_lane.declared.lanes.Lanes.{Lanes}
use Rattle.ppq_spill.specs.declared.new_array.NewArray.{NewArray}
use Rattle.ppq_spill.specs.Went.{Went, AtLeast}
use Rattle.ppq_fetch.specs.Taking.{NoneAfter}

-- no slot was drawn from a row, and the supply can take back as many buffers
pub record SameRest (old new : Stock) : Type 0 where
  pub block : new.block ≡ old.block
  pub drawn : new.drawn ≡ old.drawn
  pub buffers : new.buffer_room ≡ old.buffer_room

-- the fault names a slot that the supply keeps, of which a call failed
abbrev pub IsFaultOf : Stock → StoreFault → Type 0
IsFaultOf stock NoFreeBlock = ⊥
IsFaultOf stock (Device number) = HasFailed number stock.kept

-- blocks that were made so far, slots in hand for more of them, and the supply
pub record Hand (S R : Type 0) : Type 0 where
  pub made : External S R
  pub berths : List (DeviceBlock S R)
  pub stock : Stock

-- arrays whose records are merged, buffers for their blocks, and what is made of them
pub record Table (S R : Type 0) : Type 0 where
  pub inputs : List (External S R)
  pub idle : List (Block R)
  pub hand : Hand S R

module _ {S R : Type 0} where
  abbrev pub hand : External S R → List (DeviceBlock S R) → Stock → Hand S R
  hand made berths stock = record { made = made; berths = berths; stock = stock }

  -- a new array and its slots, and the supply
  abbrev pub hand_of : NewArray S R → Stock → Hand S R
  hand_of making stock = hand making.made making.berths stock

  -- all slots that blocks can still be written to, and those of blocks that were made
  abbrev pub hand_slots : (S → Shown) → Hand S R → List Shown
  hand_slots shown h = slots_shown shown h.made.stored ++ slots_shown shown h.berths ++ h.stock.kept

  -- each of the blocks is full
  abbrev pub AllFull : ℕ → List (DeviceBlock S R) → Type 0
  AllFull block blocks = All (λ (b : DeviceBlock S R). b.count ≡ block) blocks

  -- none has more records than fit
  abbrev pub AllFit : ℕ → List (DeviceBlock S R) → Type 0
  AllFit block blocks = All (λ (b : DeviceBlock S R). b.count ≤ block) blocks

  -- these blocks were written after those that were made, and nothing else has changed but the slots that are at hand
  pub record Wrote (shown : S → Shown) (bytes : ℕ) (old new : Hand S R) (blocks : List (DeviceBlock S R)) : Type 0 where
    pub made : new.made ≡ external old.made.level old.made.loaded old.made.lifted (old.made.stored ++ blocks)
    pub went : Went (length blocks) 0 (hand_slots shown old) (hand_slots shown new)
    pub rest : SameRest old.stock new.stock
    pub room : length new.made.stored + length new.berths + old.stock.slot_room ≡ length old.made.stored + length old.berths + new.stock.slot_room
    pub sizes : All (HasSlot shown bytes) (old.made.stored ++ old.berths) → All (HasSlot shown bytes) (new.made.stored ++ new.berths)
    pub written : All (λ (b : DeviceBlock S R). 1 ≤ (shown b.slot).writes) blocks

  -- the same, and slots at hand were called to be written so many times more, some of which failed
  pub record Tried (shown : S → Shown) (bytes later : ℕ) (old new : Hand S R) (blocks : List (DeviceBlock S R)) : Type 0 where
    pub made : new.made ≡ external old.made.level old.made.loaded old.made.lifted (old.made.stored ++ blocks)
    pub went : Went (length blocks + later) 0 (hand_slots shown old) (hand_slots shown new)
    pub rest : SameRest old.stock new.stock
    pub room : length new.made.stored + length new.berths + old.stock.slot_room ≡ length old.made.stored + length old.berths + new.stock.slot_room
    pub sizes : All (HasSlot shown bytes) (old.made.stored ++ old.berths) → All (HasSlot shown bytes) (new.made.stored ++ new.berths)
    pub written : All (λ (b : DeviceBlock S R). 1 ≤ (shown b.slot).writes) blocks

  -- all records were written, in blocks of which all but the last are full, and no write failed
  pub record WroteAll (record_of : List ℕ → R) (width block : ℕ) (shown : S → Shown) (bytes : ℕ) (records : List R) (old new : Hand S R) : Type 0 where
    pub blocks : List (DeviceBlock S R)
    pub wrote : Wrote shown bytes old new blocks
    pub quiet : AreQuiet (hand_slots shown old) (hand_slots shown new)
    pub each : AtLeast (length blocks) (hand_slots shown old) (hand_slots shown new)
    pub size : counts blocks ≡ length records
    pub packed : IsPacked block blocks
    pub tight : length blocks * block < length records + block
    pub items : AllTell (hand_slots shown old) → blocks_items record_of width shown blocks ≡ records

  -- a write failed, after some full blocks of the records
  pub record WroteSome (shown : S → Shown) (block bytes : ℕ) (records : List R) (old new : Hand S R) (fault : StoreFault) : Type 0 where
    pub blocks : List (DeviceBlock S R)
    pub wrote : Wrote shown bytes old new blocks
    pub few : length blocks * block ≤ length records
    pub failed : IsFaultOf new.stock fault

  -- what one more batch of n records asks for: buffers and slots, an array with nothing loaded that is full so far, and numbers that fit
  pub record MayWrite (shown : S → Shown) (width n : ℕ) (bufs : List (Block R)) (h : Hand S R) : Type 0 where
    pub some : 1 ≤ h.stock.block
    pub small : h.stock.block ≤ 65536
    pub idle : 0 < length bufs
    pub few_idle : length bufs < 2 ^ 32 - 1
    pub blocks : All (HasBlock h.stock.block) bufs
    pub shape : h.made ≡ external h.made.level (run_of [] 0 []) [] h.made.stored
    pub full : 0 < n → AllFull h.stock.block h.made.stored
    pub slots : n ≤ (length h.berths + length h.stock.kept) * h.stock.block
    pub sizes : All (HasSlot shown (h.stock.block * width)) (h.made.stored ++ h.berths)
    pub takes_back : length h.made.stored + length h.berths ≤ h.stock.slot_room
    pub few : size_of h.made + n ≤ (2 ^ 32 - 2) * h.stock.block

  -- what one more block of n records asks for
  pub record MayWritePart (shown : S → Shown) (width n : ℕ) (bufs : List (Block R)) (h : Hand S R) : Type 0 where
    pub small : h.stock.block ≤ 65536
    pub idle : 0 < length bufs
    pub few_idle : length bufs < 2 ^ 32 - 1
    pub blocks : All (HasBlock h.stock.block) bufs
    pub shape : h.made ≡ external h.made.level (run_of [] 0 []) [] h.made.stored
    pub some : 0 < n
    pub fit : n ≤ h.stock.block
    pub slots : 0 < length h.berths + length h.stock.kept
    pub sizes : All (HasSlot shown (h.stock.block * width)) h.berths
    pub takes_back : length h.berths ≤ h.stock.slot_room
    pub room : length h.made.stored < 2 ^ 32 - 1
    pub few : size_of h.made + n < 2 ^ 64

  -- how a write of records ends: all of them are written, or it failed after full blocks of no more records than those of a part
  abbrev pub BatchEnds : {T : Type 0} → (List ℕ → R) → ℕ → (S → Shown) → List R → List R → Hand S R → Hand S R → Result T StoreFault → Type 0
  BatchEnds record_of width shown records part old new (Ok _) = WroteAll record_of width old.stock.block shown (old.stock.block * width) records old new
  BatchEnds record_of width shown records part old new (Err fault) = WroteSome shown old.stock.block (old.stock.block * width) part old new fault

  -- the last 8 of a list of arrays
  abbrev pub last_eight : List (External S R) → List (External S R)
  last_eight arrays = drop (length arrays - 8) arrays

  -- and those in front of them
  abbrev pub all_but_eight : List (External S R) → List (External S R)
  all_but_eight arrays = take (length arrays - 8) arrays

  abbrev pub table : List (External S R) → List (Block R) → External S R → List (DeviceBlock S R) → Stock → Table S R
  table inputs idle made berths stock = record { inputs = inputs; idle = idle; hand = hand made berths stock }

  -- arrays, lanes, a new array and the supply
  abbrev pub table_of : List (External S R) → Lanes (DeviceBlock S R) R → NewArray S R → Stock → Table S R
  table_of inputs lanes making stock = table inputs lanes.idle making.made making.berths stock

  -- how many records of arrays are loaded
  abbrev pub loaded_count : List (External S R) → ℕ
  loaded_count arrays = sum_by (λ a. length (items_of a.loaded)) arrays

  -- how many records are made or left
  abbrev pub total : Table S R → ℕ
  total t = size_of t.hand.made + count_in [] t.inputs

  -- how many slots the supply has given
  abbrev pub held_slots : (S → Shown) → Table S R → ℕ
  held_slots shown t = length (external_slots shown t.inputs) + length t.hand.made.stored + length t.hand.berths

  -- the slots of the arrays and all those at hand
  abbrev pub table_slots : (S → Shown) → Table S R → List Shown
  table_slots shown t = external_slots shown t.inputs ++ hand_slots shown t.hand

  -- What holds between two batches. All blocks made but the last are full, and all of them while records are left. Made and loaded records
  -- fit in the slots of the made blocks and those that are at hand, so there is a slot for each block that is to be written
  pub record BetweenBatches (shown : S → Shown) (width workers : ℕ) (t : Table S R) : Type 0 where
    pub may : MayFetch shown width workers (state [] t.inputs t.idle t.hand.stock)
    pub some : 1 ≤ t.hand.stock.block
    pub small : t.hand.stock.block ≤ 65536
    pub shape : t.hand.made ≡ external t.hand.made.level (run_of [] 0 []) [] t.hand.made.stored
    pub packed : IsPacked t.hand.stock.block t.hand.made.stored
    pub tight : length t.hand.made.stored * t.hand.stock.block < size_of t.hand.made + t.hand.stock.block
    pub full : 0 < count_in [] t.inputs → AllFull t.hand.stock.block t.hand.made.stored
    pub fit : All (λ (a : External S R). AllFit t.hand.stock.block a.stored) t.inputs
    pub enough : size_of t.hand.made + loaded_count t.inputs ≤ (length t.hand.made.stored + length t.hand.berths + length t.hand.stock.kept) * t.hand.stock.block
    pub few : total t ≤ (2 ^ 32 - 2) * t.hand.stock.block
    pub sizes : All (HasSlot shown (t.hand.stock.block * width)) (t.hand.made.stored ++ t.hand.berths)
    pub room : held_slots shown t ≤ t.hand.stock.slot_room
    pub buffers : 2 * workers + 8 ≤ length t.idle + external_buffers t.inputs

  -- 8 arrays may be merged, a batch at a time, by so many workers, with so many places for runs and a batch with room for so many records
  pub record MayMerge (shown : S → Shown) (width workers places most : ℕ) (t : Table S R) : Type 0 where
    pub eight : length t.inputs ≡ 8
    pub ready : BetweenBatches shown width workers t
    pub worker : 1 ≤ workers
    pub bench : 8 ≤ places
    pub batch : most ≡ workers * t.hand.stock.block

  -- what a merge uses is left as it was: jobs, the batch's records and their room, workers, and places for runs
  pub record SameTools (old new : Lanes (DeviceBlock S R) R) (before now places places' : ℕ) : Type 0 where
    pub jobs : new.jobs.items ≡ old.jobs.items
    pub job_room : vec_capacity new.jobs ≡ vec_capacity old.jobs
    pub batch : length new.batch.items ≡ length old.batch.items
    pub batch_room : vec_capacity new.batch ≡ vec_capacity old.batch
    pub workers : now ≡ before
    pub same_places : places' ≡ places

  -- What holds after merging, whatever the answer. Slots were written so many times besides: behind a write that failed
  pub record Merging (shown : S → Shown) (width later : ℕ) (old new : Table S R) : Type 0 where
    pub blocks : List (DeviceBlock S R)
    pub made : new.hand.made ≡ external old.hand.made.level old.hand.made.loaded old.hand.made.lifted (old.hand.made.stored ++ blocks)
    pub few : (length new.hand.made.stored + later) * old.hand.stock.block < total old + old.hand.stock.block
    pub fewer : blocks_in new.inputs ≤ blocks_in old.inputs
    pub eight : length new.inputs ≡ length old.inputs
    pub went : Went (length blocks + later) (blocks_in old.inputs - blocks_in new.inputs) (table_slots shown old) (table_slots shown new)
    pub rest : SameRest old.hand.stock new.hand.stock
    pub room : held_slots shown new + old.hand.stock.slot_room ≡ held_slots shown old + new.hand.stock.slot_room
    pub buffers : length new.idle + external_buffers new.inputs ≡ length old.idle + external_buffers old.inputs
    pub sizes : All (HasSlot shown (old.hand.stock.block * width)) (new.hand.made.stored ++ new.hand.berths)
    pub written : All (λ (b : DeviceBlock S R). 1 ≤ (shown b.slot).writes) blocks
    pub same_idle : All (HasBlock old.hand.stock.block) new.idle
    pub same_external : All (HasSlots shown (old.hand.stock.block * width)) new.inputs
    pub same_loaded : All (λ (a : External S R). RunHasBlock old.hand.stock.block a.loaded) new.inputs

  -- the records that are made and those that are left
  abbrev pub all_records : (List ℕ → R) → ℕ → (S → Shown) → Table S R → List R
  all_records record_of width shown t = records_in record_of width shown t.hand.made ++ source_items record_of width shown (state [] t.inputs t.idle t.hand.stock)

  -- each array ascends, and what is made; and no record that is made is after one that is left
  pub record IsRising (cmp : R → R → Ordering) (record_of : List ℕ → R) (width : ℕ) (shown : S → Shown) (t : Table S R) : Type 0 where
    pub inputs : RunsRise record_of width shown cmp (state [] t.inputs t.idle t.hand.stock)
    pub made : Ascends cmp (records_in record_of width shown t.hand.made)
    pub after : NoneAfter cmp (records_in record_of width shown t.hand.made) (source_items record_of width shown (state [] t.inputs t.idle t.hand.stock))

  -- records went from the arrays to made blocks, and no read or write failed
  pub record MergedOn (cmp : R → R → Ordering) (record_of : List ℕ → R) (width workers : ℕ) (shown : S → Shown) (old new : Table S R) : Type 0 where
    pub merging : Merging shown width 0 old new
    pub quiet : AreQuiet (table_slots shown old) (table_slots shown new)
    pub each : AtLeast (length new.hand.made.stored - length old.hand.made.stored) (table_slots shown old) (table_slots shown new)
    pub ready : BetweenBatches shown width workers new
    pub same : total new ≡ total old
    pub rise : AllTell (table_slots shown old) → IsRising cmp record_of width shown old → IsRising cmp record_of width shown new
    pub records : AllTell (table_slots shown old) → IsRising cmp record_of width shown old → IsSameBag (all_records record_of width shown old) (all_records record_of width shown new)

  -- a read or write failed
  pub record MergeFailed (shown : S → Shown) (width : ℕ) (old new : Table S R) (fault : StoreFault) : Type 0 where
    pub later : ℕ
    pub merging : Merging shown width later old new
    pub failed : IsFaultOf new.hand.stock fault

  -- so many records were merged, and none only if none is left
  pub record MergedBatch (cmp : R → R → Ordering) (record_of : List ℕ → R) (width workers : ℕ) (shown : S → Shown) (old new : Table S R) (count : ℕ) : Type 0 where
    pub merged : MergedOn cmp record_of width workers shown old new
    pub count_is : count + count_in [] new.inputs ≡ count_in [] old.inputs
    pub end : count ≡ 0 → count_in [] new.inputs ≡ 0

  -- how the merge of a batch ends
  abbrev pub BatchMergeEnds : (R → R → Ordering) → (List ℕ → R) → ℕ → ℕ → (S → Shown) → Table S R → Table S R → Result ℕ StoreFault → Type 0
  BatchMergeEnds cmp record_of width workers shown old new (Ok count) = MergedBatch cmp record_of width workers shown old new count
  BatchMergeEnds cmp record_of width workers shown old new (Err fault) = MergeFailed shown width old new fault

  -- an array has no slot and no buffer any more
  pub record HasNothing (a : External S R) : Type 0 where
    pub stored : a.stored ≡ []
    pub loaded : buffers_of a.loaded ≡ []

  -- how the merge of arrays ends: nothing is left of them, or a read or write failed
  abbrev pub MergeEnds : {T : Type 0} → (R → R → Ordering) → (List ℕ → R) → ℕ → ℕ → (S → Shown) → Table S R → Table S R → Result T StoreFault → Type 0
  MergeEnds cmp record_of width workers shown old new (Ok _) = MergedOn cmp record_of width workers shown old new × All HasNothing new.inputs
  MergeEnds cmp record_of width workers shown old new (Err fault) = MergeFailed shown width old new fault

  -- the slots that are left in hand went back to the supply
  abbrev pub freed : (S → Shown) → Hand S R → Stock
  freed shown h = record (h.stock) { kept = h.stock.kept ++ slots_shown shown h.berths; slot_room = h.stock.slot_room - length h.berths }

  -- the arrays were merged into one, which replaces them and stands after the others
  pub record LastMerged (cmp : R → R → Ordering) (record_of : List ℕ → R) (width workers : ℕ) (shown : S → Shown) (others : List (External S R)) (old : Table S R) (arrays : List (External S R)) (idle : List (Block R)) (stock : Stock) : Type 0 where
    pub end : Table S R
    pub merged : MergedOn cmp record_of width workers shown old end
    pub emptied : All HasNothing end.inputs
    pub arrays_are : arrays ≡ others ++ end.hand.made ∷ []
    pub idle_is : idle ≡ end.idle
    pub stock_is : stock ≡ freed shown end.hand

  -- a read or write failed; what is left of the arrays and what was made stand after the others
  pub record LastFailed (shown : S → Shown) (width : ℕ) (others : List (External S R)) (old : Table S R) (arrays : List (External S R)) (idle : List (Block R)) (stock : Stock) (fault : StoreFault) : Type 0 where
    pub end : Table S R
    pub failed : MergeFailed shown width old end fault
    pub arrays_are : arrays ≡ others ++ end.inputs ++ end.hand.made ∷ []
    pub idle_is : idle ≡ end.idle
    pub stock_is : stock ≡ freed shown end.hand

  -- how the merge of the last arrays ends
  abbrev pub LastEnds : {T : Type 0} → (R → R → Ordering) → (List ℕ → R) → ℕ → ℕ → (S → Shown) → List (External S R) → Table S R → List (External S R) → List (Block R) → Stock → Result T StoreFault → Type 0
  LastEnds cmp record_of width workers shown others old arrays idle stock (Ok _) = LastMerged cmp record_of width workers shown others old arrays idle stock
  LastEnds cmp record_of width workers shown others old arrays idle stock (Err fault) = LastFailed shown width others old arrays idle stock fault
