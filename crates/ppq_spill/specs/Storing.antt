-- What it takes to store a run, and what stands afterwards.
use Rattle.std.specs.Prelude.{◌≡◌, ◌↔◌, ◌⊎◌, ℕ, ◌+◌, ◌-◌, ◌*◌, ◌<◌, ◌≤◌, ◌^◌, List, [], ◌∷◌, ◌++◌, length, All, vec_capacity, Result, Ok, Err}
use Rattle.std.specs.declared.cmp.Ordering.{Ordering}
use Rattle.ppq_fetch.specs.ppq_record.Order.{Ascends}
use Rattle.ppq_fetch.specs.ppq_record.Bag.{IsSameBag}
use Rattle.ppq_fetch.specs.ppq_outside.Shown.{Shown, AllTell}
use Rattle.ppq_fetch.specs.ppq_outside.Told.{Rose}
use Rattle.ppq_fetch.specs.ppq_lane.declared.lanes.Lanes.{Lanes}
use Rattle.ppq_fetch.specs.ppq_array.declared.berth.DeviceBlock.{DeviceBlock}
use Rattle.ppq_fetch.specs.ppq_array.Supply.{Stock, sure_slots}
use Rattle.ppq_fetch.specs.ppq_array.Owner.{slots_shown, HasBlock}
use Rattle.ppq_fetch.specs.ppq_array.Run.{Run, run_of, items_of, buffers_of}
use Rattle.ppq_fetch.specs.ppq_array.External.{External, size_of, records_in, IsPacked}
use Rattle.ppq_fetch.specs.ppq_array.declared.store_fault.StoreFault.{StoreFault}
use Rattle.ppq_fetch.specs.ppq_array.declared.store_fault.StoreFault.TheVariants.{NoFreeBlock, Device}
use Rattle.ppq_fetch.specs.ppq_array.Kept.{Kept, HasFailed, MoreWrites, SameSums, AreQuiet, all_writes}
use Rattle.ppq_fetch.specs.ppq_array.Holdings.{internal_items, RunHasBlock, HasSlots, CanTakeBack}
use Rattle.ppq_fetch.specs.Fetching.{IsFitting}
use Rattle.ppq_spill.specs.Body.{body_slots, held_by}
use Rattle.ppq_spill.specs.Untold.{SameUntold}
use Rattle.ppq_spill.specs.Went.{AtLeast}
use Rattle.ppq_spill.specs.Writing.{FirstFailed}
use Rattle.ppq_spill.specs.declared.body.PassBody.{PassBody}

-- so many blocks have no room for so many records
abbrev pub TooFew : ℕ → ℕ → ℕ → Type 0
TooFew blocks block records = blocks * block < records

-- The call found too few buffers for n records: a take answered None, the supply was not sure of enough at the beginning, and when a take
-- last answered None fewer than enough were out more than at the beginning
pub record IsShortOfBuffers (n : ℕ) (old new : Stock) : Type 0 where
  pub counted : Rose old.scant new.scant
  pub unsure : TooFew old.sure_buffers old.block n
  pub few : TooFew (new.room_when_scant - old.buffer_room) old.block n

-- No slot was drawn, and none came back
pub record SlotsUntouched (old new : Stock) : Type 0 where
  pub kept : new.kept ≡ old.kept
  pub drawn : new.drawn ≡ old.drawn
  pub slot_room : new.slot_room ≡ old.slot_room
  pub dry : new.dry ≡ old.dry

-- no buffer was taken
pub record SameScant (before now : Stock) : Type 0 where
  pub scant : now.scant ≡ before.scant
  pub room : now.room_when_scant ≡ before.room_when_scant
  pub block : now.block ≡ before.block

module _ {S R : Type 0} where
  -- How many records a body has in runs in buffers
  abbrev pub in_buffers : PassBody S R → ℕ
  in_buffers body = length (internal_items body.runs.internal.items)

  -- all slots and buffers of a body are of one block size, that of its supply
  pub record HasOneSize (shown : S → Shown) (width : ℕ) (body : PassBody S R) (stock : Stock) : Type 0 where
    pub some : 1 ≤ stock.block
    pub small : stock.block ≤ 65536
    pub idle : All (HasBlock stock.block) body.lanes.idle
    pub internal : All (RunHasBlock stock.block) body.runs.internal.items
    pub external : All (HasSlots shown (stock.block * width)) body.runs.external.items

  -- a body can store a run of n records more
  pub record MayStore (shown : S → Shown) (width n : ℕ) (body : PassBody S R) (stock : Stock) : Type 0 where
    pub size : HasOneSize shown width body stock
    pub buffer : 2 ≤ length body.lanes.idle
    pub few_idle : length body.lanes.idle < 2 ^ 32 - 1
    pub no_job : body.lanes.jobs.items ≡ []
    pub takes_back : CanTakeBack shown stock body.runs.internal.items body.runs.external.items
    pub internal_room : length body.runs.internal.items < vec_capacity body.runs.internal
    pub external_room : length body.runs.external.items < vec_capacity body.runs.external
    pub leaves : length body.runs.internal.items < length body.tree.items
    pub few : n + in_buffers body < 2 ^ 32 - 1

  -- no job is left; as many buffers are idle, and batch and room are as they were
  pub record LanesRest (old new : Lanes (DeviceBlock S R) R) : Type 0 where
    pub no_job : new.jobs.items ≡ []
    pub idle : length new.idle ≡ length old.idle
    pub batch : length new.batch.items ≡ length old.batch.items
    pub room : vec_capacity new.jobs ≡ vec_capacity old.jobs

  -- the lists of runs have the room that they had, and the tree as many leaves
  pub record RoomsRest (old new : PassBody S R) : Type 0 where
    pub internal : vec_capacity new.runs.internal ≡ vec_capacity old.runs.internal
    pub external : vec_capacity new.runs.external ≡ vec_capacity old.runs.external
    pub tree : length new.tree.items ≡ length old.tree.items

  -- the run is one more run in buffers, and no slot was drawn or called
  pub record IsInBuffers (sorted : List R) (old new : PassBody S R) (before now : Stock) : Type 0 where
    pub run : Run R
    pub items : items_of run ≡ sorted
    pub spent : run.spent ≡ []
    pub fitting : All IsFitting (buffers_of run)
    pub internal : new.runs.internal.items ≡ old.runs.internal.items ++ run ∷ []
    pub external : new.runs.external.items ≡ old.runs.external.items
    pub slots : SlotsUntouched before now

  -- the run and all runs in buffers are one more run in blocks, of level 0, with nothing loaded; it ascends where slots tell. No call of a
  -- slot failed
  pub record BlocksStored (cmp : R → R → Ordering) (record_of : List ℕ → R) (width : ℕ) (shown : S → Shown) (sorted : List R) (old new : PassBody S R) (before now : Stock) : Type 0 where
    pub array : External S R
    pub quiet : AreQuiet (body_slots shown old ++ before.kept ++ now.drawn) (body_slots shown new ++ now.kept ++ before.drawn)
    pub level : array.level ≡ 0
    pub loaded : array.loaded ≡ run_of [] 0 []
    pub lifted : array.lifted ≡ []
    pub size : size_of array ≡ length sorted + in_buffers old
    pub ascends : AllTell (body_slots shown old ++ before.kept ++ now.drawn) → Ascends cmp (records_in record_of width shown array)
    pub records : AllTell (body_slots shown old ++ before.kept ++ now.drawn) → IsSameBag (records_in record_of width shown array) (sorted ++ internal_items old.runs.internal.items)
    pub blocks : length array.stored * before.block < size_of array + before.block
    pub packed : IsPacked before.block array.stored
    pub written : All (λ (b : DeviceBlock S R). 1 ≤ (shown b.slot).writes) array.stored
    -- and each of its blocks since the call began
    pub each : AtLeast (length array.stored) (body_slots shown old ++ before.kept ++ now.drawn) (body_slots shown new ++ now.kept ++ before.drawn)
    -- the slots are those that the supply kept, as far as they go
    pub kept : length now.kept ≡ length before.kept - length array.stored
    pub internal : new.runs.internal.items ≡ []
    pub external : new.runs.external.items ≡ old.runs.external.items ++ array ∷ []

  -- the same, and the call was short of buffers
  pub record IsInBlocks (cmp : R → R → Ordering) (record_of : List ℕ → R) (width : ℕ) (shown : S → Shown) (sorted : List R) (old new : PassBody S R) (before now : Stock) : Type 0 where
    pub short : IsShortOfBuffers (length sorted) before now
    pub blocks : BlocksStored cmp record_of width shown sorted old new before now

  -- the run is one more run of the body
  abbrev pub IsStored : (R → R → Ordering) → (List ℕ → R) → ℕ → (S → Shown) → List R → PassBody S R → PassBody S R → Stock → Stock → Type 0
  IsStored cmp record_of width shown sorted old new before now = IsInBuffers sorted old new before now ⊎ IsInBlocks cmp record_of width shown sorted old new before now

  -- too few slots were to be had, before any of them was called: nothing has changed but the supply's counts, which slots it keeps, and the
  -- order of its buffers
  pub record NoSlots (n : ℕ) (old new : PassBody S R) (before now : Stock) : Type 0 where
    pub untouched : SameSums (before.kept ++ now.drawn) (now.kept ++ before.drawn)
    pub dry : Rose before.dry now.dry
    pub unsure : TooFew (sure_slots before) before.block (n + in_buffers old)
    pub still : sure_slots before ≤ sure_slots now
    pub still_few : TooFew (sure_slots now) before.block (n + in_buffers old)
    pub internal : new.runs.internal.items ≡ old.runs.internal.items
    pub external : new.runs.external.items ≡ old.runs.external.items
    pub idle : new.lanes.idle ≡ old.lanes.idle
    pub buffers : now.buffer_room ≡ before.buffer_room

  -- the same, and the call was short of buffers
  pub record NoneFree (n : ℕ) (old new : PassBody S R) (before now : Stock) : Type 0 where
    pub short : IsShortOfBuffers n before now
    pub slots : NoSlots n old new before now

  -- all slots of a body and those that its supply keeps and gave: before a call, and after it
  abbrev pub slots_before : (S → Shown) → PassBody S R → Stock → Stock → List Shown
  slots_before shown body before now = body_slots shown body ++ before.kept ++ now.drawn

  abbrev pub slots_after : (S → Shown) → PassBody S R → Stock → Stock → List Shown
  slots_after shown body before now = body_slots shown body ++ now.kept ++ before.drawn

  -- the slots tell just where they told before
  abbrev pub StillTell : (S → Shown) → PassBody S R → PassBody S R → Stock → Stock → Type 0
  StillTell shown old new before now = AllTell (slots_before shown old before now) ↔ AllTell (slots_after shown new before now)

  -- and as many of them do not tell
  abbrev pub StillUntold : (S → Shown) → PassBody S R → PassBody S R → Stock → Stock → Type 0
  StillUntold shown old new before now = SameUntold (slots_before shown old before now) (slots_after shown new before now)

  -- no more blocks were written than n records and those in buffers take, and none was read
  pub record WritesFew (shown : S → Shown) (n : ℕ) (old new : PassBody S R) (before now : Stock) : Type 0 where
    pub blocks : ℕ
    pub few : blocks * before.block < n + in_buffers old + before.block
    pub transfers : MoreWrites blocks (slots_before shown old before now) (slots_after shown new before now)
    pub stay : all_writes (slots_before shown old before now) ≤ all_writes (slots_after shown new before now)

  -- where the slots tell, the run to be stored and the runs in buffers ascend
  pub record RunsAscend (cmp : R → R → Ordering) (shown : S → Shown) (sorted : List R) (body : PassBody S R) (stock : Stock) : Type 0 where
    pub run : AllTell (body_slots shown body ++ stock.kept) → Ascends cmp sorted
    pub internal : AllTell (body_slots shown body ++ stock.kept) → All (λ (run : Run R). Ascends cmp (items_of run)) body.runs.internal.items

  -- a slot with this number is in the body or kept by its supply, and a call of it failed
  abbrev pub DeviceFailed : (S → Shown) → ℕ → PassBody S R → Stock → Type 0
  DeviceFailed shown number body stock = HasFailed number (body_slots shown body ++ stock.kept)

  -- A write of the slot with this number failed, which the supply keeps. Of the slots in the order in which the supply gives them, those in
  -- front of it hold the blocks of one run more, and no call of them failed since; of this one a call did
  pub record RunStopped (shown : S → Shown) (number : ℕ) (old new : PassBody S R) (before now : Stock) : Type 0 where
    pub failed : DeviceFailed shown number new now
    pub fresh : List Shown
    pub drawn : now.drawn ≡ before.drawn ++ fresh
    pub array : External S R
    pub external : new.runs.external.items ≡ old.runs.external.items ++ array ∷ []
    pub told : Shown
    pub number_is : told.number ≡ number
    pub others : List Shown
    pub later : List Shown
    pub kept : now.kept ≡ others ++ told ∷ later
    pub first : FirstFailed (before.kept ++ fresh) (slots_shown shown array.stored) told

  -- the same, and the call was short of buffers: else it calls no slot
  pub record StoreFailed (shown : S → Shown) (number n : ℕ) (old new : PassBody S R) (before now : Stock) : Type 0 where
    pub short : IsShortOfBuffers n before now
    pub stopped : RunStopped shown number old new before now

  -- what storing runs in blocks leaves, whatever the answer
  pub record StoreLeaves (shown : S → Shown) (width n : ℕ) (old new : PassBody S R) (before now : Stock) : Type 0 where
    pub kept : Kept before now (held_by shown old) (held_by shown new)
    pub takes_back : CanTakeBack shown now new.runs.internal.items new.runs.external.items
    pub tells : StillTell shown old new before now
    pub untold : StillUntold shown old new before now
    pub writes : WritesFew shown n old new before now
    pub lanes : LanesRest old.lanes new.lanes
    pub size : HasOneSize shown width new now
    pub rooms : RoomsRest old new

  -- how it ends: all is stored, too few slots were to be had, or a write failed
  abbrev pub StoreEnds : {T : Type 0} → (R → R → Ordering) → (List ℕ → R) → ℕ → (S → Shown) → List R → PassBody S R → PassBody S R → Stock → Stock → Result T StoreFault → Type 0
  StoreEnds cmp record_of width shown sorted old new before now (Ok _) = BlocksStored cmp record_of width shown sorted old new before now
  StoreEnds cmp record_of width shown sorted old new before now (Err NoFreeBlock) = NoSlots (length sorted) old new before now
  StoreEnds cmp record_of width shown sorted old new before now (Err (Device number)) = RunStopped shown number old new before now
