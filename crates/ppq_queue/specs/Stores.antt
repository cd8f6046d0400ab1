-- What a store needs for its calls, what stays after them, and what they say.
use Rattle.std.specs.Prelude.{◌≡◌, ◌⊎◌, ℕ, ◌+◌, ◌*◌, ◌<◌, ◌≤◌, List, [], ◌++◌, length, Result, OnOk, IfErr, IsOk, IsErrOf}
use Rattle.std.specs.declared.cmp.Ordering.{Ordering}
use Rattle.ppq_heap.specs.ppq_record.Order.{Ascends}
use Rattle.ppq_heap.specs.ppq_record.Bag.{IsSameBag}
use Rattle.ppq_heap.specs.Heaps.{Shares, items_of, share_at}
use Rattle.ppq_extract.specs.ppq_outside.Shown.{Shown, AllTell}
use Rattle.ppq_extract.specs.ppq_budget.Sizes.{Numbers, AreInRange, fixed_of, batch_of, pool_of}
use Rattle.ppq_extract.specs.ppq_array.Supply.{Stock}
use Rattle.ppq_extract.specs.ppq_array.Holdings.{external_buffers}
use Rattle.ppq_extract.specs.ppq_array.Kept.{HasFailed, AreQuiet}
use Rattle.ppq_extract.specs.ppq_array.declared.store_fault.StoreFault.{StoreFault}
use Rattle.ppq_extract.specs.ppq_array.declared.store_fault.StoreFault.TheVariants.{NoFreeBlock, Device}
use Rattle.ppq_extract.specs.ppq_fetch.Taking.{NoneAfter}
use Rattle.ppq_extract.specs.Extracted.{ServesFor, SourcesRest}
use Rattle.ppq_spill.specs.Costing.{PaysUnless, Pays}
use Rattle.ppq_spill.specs.Leveling.{count_level}
use Rattle.ppq_spill.specs.declared.body.PassBody.{PassBody}
use Rattle.ppq_queue.specs.Resting.{AtRest, BodyKept, Moved, StoreShort, IsShort, runs_bag, count_of, crowd_of, slots_of}
use Rattle.ppq_queue.specs.Paying.{stores_cost, runs_account, store_account, heaps_account}
use Rattle.ppq_queue.specs.declared.store.Store.{Store}

module _ {R : Type 0} where
  -- as many heaps, with as much room, and no more records
  pub record HeapsStay (old new : Shares R) : Type 0 where
    pub count : length new.heaps ≡ length old.heaps
    pub cap : new.cap ≡ old.cap
    pub fewer : length (items_of new) ≤ length (items_of old)

  -- all records of the heap at a place left the heaps
  pub record ShareStored (place : ℕ) (old new : Shares R) : Type 0 where
    pub emptied : share_at new place ≡ []
    pub left : length (items_of new) + length (share_at old place) ≤ length (items_of old)

module _ {S R : Type 0} where
  -- the extract buffer is empty, and there is room for one run in blocks more
  pub record IsEmptied (store : Store S R) : Type 0 where
    pub no_extract : store.extract.items ≡ []
    pub few : length store.body.runs.external.items ≤ 64

  -- a level has more than 8 runs, and so few slots are free that a merge of it may want more
  pub record IsCrowded (store : Store S R) : Type 0 where
    pub level : 8 < crowd_of store.body.runs.external.items
    pub free : length store.supply.kept < 8 + store.sizes.workers

  -- at least half of the pool's buffers are idle, and there is room for one run in blocks more
  pub record IsHalfIdle (store : Store S R) : Type 0 where
    pub few : length store.body.runs.external.items ≤ 64
    pub idle : pool_of store.sizes ≤ 2 * store.supply.sure_buffers

  -- two merges of a level may be made side by side: both are due, nothing is loaded, there is a worker for each, and what the second needs: a bench, and
  -- the extract buffer, in which no record is
  pub record MayMergeTwo (level : ℕ) (store : Store S R) : Type 0 where
    pub more : 16 < count_level level store.body.runs.external.items
    pub workers : 1 < store.sizes.workers
    pub none_loaded : external_buffers store.body.runs.external.items ≡ 0
    pub one : store.sources.second.workers ≡ 1
    pub places : 8 ≤ length store.sources.second.places
    pub no_extract : store.extract.items ≡ []

  -- how many records the extract buffer and the runs have
  abbrev pub stored : Store S R → ℕ
  stored store = length store.extract.items + count_of store.body

module _ {S R : Type 0} (shown : S → Shown) where
  -- all slots of a store
  abbrev pub slots_in : Store S R → List Shown
  slots_in store = slots_of shown store.body store.supply

  -- whatever is answered: no slot and no buffer is lost or made, all lists keep their room, and no slot is drawn from a row
  pub record RunsKept (old new : PassBody S R) (before now : Stock) : Type 0 where
    pub body : BodyKept shown old new before now
    pub no_row : now.drawn ≡ []

  -- whatever is answered: no slot and no buffer is lost or made, all lists keep their room, and the extract buffer is within its own
  pub record StoreKept (old new : Store S R) : Type 0 where
    pub body : BodyKept shown old.body new.body old.supply new.supply
    pub no_row : old.supply.drawn ≡ [] → new.supply.drawn ≡ []
    pub sizes : new.sizes ≡ old.sizes
    pub sources : SourcesRest old.sources new.sources
    pub room : new.extract.room ≡ old.extract.room
    pub within : length old.extract.items ≤ old.extract.room → length new.extract.items ≤ new.extract.room

  -- the same, and the extract buffer got no record
  pub record StoreStays (old new : Store S R) : Type 0 where
    pub kept : StoreKept old new
    pub extract : length new.extract.items ≤ length old.extract.items

  -- a call of the slot with this number failed, and no other refusal comes
  abbrev pub FailsAlone : Store S R → StoreFault → Type 0
  FailsAlone new NoFreeBlock = ⊥
  FailsAlone new (Device number) = HasFailed number (slots_in new)

  module _ (cmp : R → R → Ordering) (record_of : List ℕ → R) (width : ℕ) where
    -- runs may be stored and merged: they rest, and the budget is no less than its fixed part
    pub record RunsMayMove (sizes : Numbers) (body : PassBody S R) (supply : Stock) : Type 0 where
      pub range : AreInRange sizes
      pub budget : fixed_of sizes ≤ sizes.memory
      pub rest : AtRest shown cmp record_of width sizes body supply
      pub no_row : supply.drawn ≡ []

    -- a run of so many records may be stored: there are some, the budget has room for them, and there is room for one run in blocks more
    pub record RunMayCome (sizes : Numbers) (body : PassBody S R) (supply : Stock) (n : ℕ) : Type 0 where
      pub runs : RunsMayMove sizes body supply
      pub few : length body.runs.external.items ≤ 64
      pub some : 0 < n
      pub most : n ≤ sizes.memory

    -- what a run of so many records that was refused says
    abbrev pub RunRefused : (sizes : Numbers) (n : ℕ) (old new : PassBody S R) (before now : Stock) → StoreFault → Type 0
    RunRefused sizes n old new before now NoFreeBlock = StoreShort shown cmp record_of width sizes n old new before now
    RunRefused sizes n old new before now (Device number) = HasFailed number (slots_of shown new now)

    -- what the store of a list of records as one run more leaves: what stays whatever is returned, that they came, what a refusal means, and what
    -- it costs, of which a refusal is free
    pub record RunLeaves {T : Type 0} (sizes : Numbers) (sorted : List R) (old new : PassBody S R) (before now : Stock) (r : Result T StoreFault) : Type 0 where
      pub kept : RunsKept old new before now
      pub stored : OnOk r (Moved shown cmp record_of width sizes sorted old new before now)
      pub refused : IfErr r (RunRefused sizes (length sorted) old new before now)
      pub pays : PaysUnless r (stores_cost sizes (length sorted) 1) 1 0 0 (runs_account shown sizes old before) (runs_account shown sizes new now)

    -- What each call of a store needs and leaves, unless a slot failed: runs may move, and the sources serve for all of them. The extract buffer
    -- is within its room; where slots tell it ascends, and no record of a run is before one of its
    pub record MayWork (store : Store S R) : Type 0 where
      pub runs : RunsMayMove store.sizes store.body store.supply
      pub workers : store.sources.bench.workers ≡ store.sizes.workers
      pub serves : ServesFor (pool_of store.sizes + 65) store.sources
      pub room : store.extract.room ≡ batch_of store.sizes
      pub within : length store.extract.items ≤ store.extract.room
      pub ascends : AllTell (slots_in store) → Ascends cmp store.extract.items
      pub order : AllTell (slots_in store) → NoneAfter cmp store.extract.items (runs_bag shown record_of width store.body)

    -- the same, and there is room for one run in blocks more
    pub record MayAdd (store : Store S R) : Type 0 where
      pub works : MayWork store
      pub few : length store.body.runs.external.items ≤ 64

    -- the same with an empty extract buffer, and the budget has room for the records of heaps
    pub record MayStoreHeaps (heap : List R) (store : Store S R) : Type 0 where
      pub works : MayWork store
      pub emptied : IsEmptied store
      pub most : length heap ≤ store.sizes.memory

    -- the records of heaps, the extract buffer and the runs
    abbrev pub whole_bag : List R → Store S R → List R
    whole_bag heap store = heap ++ store.extract.items ++ runs_bag shown record_of width store.body

    -- heaps and store hold together what they held, no call of a slot failed, and the store may work on
    pub record Holds (heap heap' : List R) (old new : Store S R) : Type 0 where
      pub works : MayWork new
      pub quiet : AreQuiet (slots_in old) (slots_in new)
      pub bag : AllTell (slots_in old) → IsSameBag (whole_bag heap' new) (whole_bag heap old)
      pub count : length heap' + stored new ≡ length heap + stored old

    -- the extract buffer is empty only if no run is left
    pub record Readies (old new : Store S R) : Type 0 where
      pub holds : Holds [] [] old new
      pub some : new.extract.items ≡ [] → count_of new.body ≡ 0

    -- a merge or a store found too few free slots, of what is held together, which is some
    pub record Lacks (heap heap' : List R) (old new : Store S R) : Type 0 where
      pub holds : Holds heap heap' old new
      pub some : 0 < length heap + stored old
      pub short : IsShort new.sizes (length new.supply.kept) (length heap + stored old)

    -- what stands after a refusal
    abbrev pub Refuses : (heap heap' : List R) (old new : Store S R) → StoreFault → Type 0
    Refuses heap heap' old new NoFreeBlock = Lacks heap heap' old new
    Refuses heap heap' old new (Device number) = HasFailed number (slots_in new)

    -- what a call leaves of heaps and the store: what stays whatever is returned, that all is held if it is Ok, and what a refusal means
    pub record StoreLeaves {T : Type 0} (heap heap' : List R) (old new : Store S R) (r : Result T StoreFault) : Type 0 where
      pub stays : StoreStays old new
      pub holds : OnOk r (Holds heap heap' old new)
      pub refused : IfErr r (Refuses heap heap' old new)

    -- what a merge of levels leaves: the same; the runs in buffers are as they were; a level is crowded where no block was free; and it costs no more
    -- than its runs owed
    pub record LevelsLeave {T : Type 0} (old new : Store S R) (r : Result T StoreFault) : Type 0 where
      pub leaves : StoreLeaves [] [] old new r
      pub internal : new.body.runs.internal ≡ old.body.runs.internal
      pub crowded : IsErrOf r NoFreeBlock → IsCrowded new
      pub pays : Pays r 0 0 (store_account shown old) (store_account shown new)

    -- what a merge of one level leaves: the same; and lower levels have as many runs as before
    pub record LevelLeaves {T : Type 0} (level : ℕ) (old new : Store S R) (r : Result T StoreFault) : Type 0 where
      pub levels : LevelsLeave old new r
      pub lower : OnOk r ((j : ℕ) → j < level → count_level j new.body.runs.external.items ≡ count_level j old.body.runs.external.items)

    -- what a merge of all levels leaves: the same; and there is room for one run in blocks more
    pub record Settles {T : Type 0} (old new : Store S R) (r : Result T StoreFault) : Type 0 where
      pub levels : LevelsLeave old new r
      pub few : OnOk r (length new.body.runs.external.items ≤ 64)

    -- what a store of the rest of the extract buffer leaves, and what it costs with so many runs
    pub record RestLeaves {T : Type 0} (runs : ℕ) (old new : Store S R) (r : Result T StoreFault) : Type 0 where
      pub leaves : StoreLeaves [] [] old new r
      pub emptied : OnOk r (IsEmptied new)
      pub pays : Pays r (stores_cost old.sizes (length old.extract.items) runs) runs (store_account shown old) (store_account shown new)

    -- what a store of heaps and of the rest of the extract buffer leaves, where the heaps keep their room, and what it costs with so many runs: the
    -- records of heaps are paid already
    pub record HeapsLeave {T : Type 0} (runs : ℕ) (before after : Shares R) (old new : Store S R) (r : Result T StoreFault) : Type 0 where
      pub leaves : StoreLeaves (items_of before) (items_of after) old new r
      pub heaps : HeapsStay before after
      pub emptied : OnOk r (IsEmptied new)
      pub pays : Pays r (stores_cost old.sizes (length old.extract.items) runs) runs (heaps_account shown before old) (heaps_account shown after new)

    -- what a refill leaves of a store: it is ready, with room for one run in blocks more, unless a block failed. It costs nothing
    pub record Refills {T : Type 0} (old new : Store S R) (r : Result T StoreFault) : Type 0 where
      pub kept : StoreKept old new
      pub readied : OnOk r (Readies old new)
      pub few : OnOk r (length new.body.runs.external.items ≤ 64)
      pub failed : IfErr r (FailsAlone new)
      pub pays : Pays r 0 0 (store_account shown old) (store_account shown new)

    -- what a call leaves that makes a store ready: nothing is done where the extract buffer has a record, or no run has one; and a level is
    -- crowded where no block was free
    pub record MakesReady {T : Type 0} (old new : Store S R) (r : Result T StoreFault) : Type 0 where
      pub kept : StoreKept old new
      pub readied : OnOk r (Readies old new)
      pub easy : (0 < length old.extract.items) ⊎ (count_of old.body ≡ 0) → IsOk r × (new ≡ old)
      pub crowded : IsErrOf r NoFreeBlock → IsCrowded new
      pub refused : IfErr r (Refuses [] [] old new)
      pub pays : Pays r 0 0 (store_account shown old) (store_account shown new)
