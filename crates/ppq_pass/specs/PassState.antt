-- What holds of a pass between its calls.
use Rattle.std.specs.Prelude.{◌≡◌, ℕ, ◌+◌, ◌*◌, ◌/◌, ◌<◌, ◌≤◌, Bool, true, List, [], ◌++◌, length, Option, Some, None, All, vec_capacity}
use Rattle.std.specs.declared.cmp.Ordering.{Ordering}
use Rattle.ppq_pool.specs.ppq_record.Order.{Ascends}
use Rattle.ppq_extract.specs.ppq_outside.Shown.{Shown, AllTell}
use Rattle.ppq_extract.specs.ppq_budget.Sizes.{Numbers, AreInRange, heap_of, pool_of}
use Rattle.ppq_heap.specs.Heap.{Contents}
use Rattle.ppq_extract.specs.ppq_array.declared.berth.DeviceBlock.{DeviceBlock}
use Rattle.ppq_extract.specs.ppq_array.Run.{Run, run_of, items_of, buffers_of}
use Rattle.ppq_extract.specs.ppq_array.External.{External, size_of, records_in}
use Rattle.ppq_extract.specs.ppq_array.Supply.{Stock}
use Rattle.ppq_extract.specs.ppq_array.Kept.{SameSlots, HasFailed, AreQuiet, all_writes, all_reads}
use Rattle.ppq_extract.specs.ppq_array.Owner.{slots_shown}
use Rattle.ppq_extract.specs.ppq_array.Holdings.{RunHasBlock, HasSlots, CanTakeBack}
use Rattle.ppq_extract.specs.ppq_fetch.Fetching.{IsFitting, count_in}
use Rattle.ppq_spill.specs.ppq_counts.Tally.{tally}
use Rattle.ppq_spill.specs.ppq_counts.Account.{Account, beside, IsCountedFrom}
use Rattle.ppq_spill.specs.Body.{held_by}
use Rattle.ppq_spill.specs.Costing.{body_account}
use Rattle.ppq_spill.specs.Storing.{HasOneSize, in_buffers}
use Rattle.ppq_spill.specs.Untold.{SameUntold}
use Rattle.ppq_spill.specs.declared.body.PassBody.{PassBody}
use Rattle.ppq_pool.specs.Seats.{count_of}
use Rattle.ppq_pass.specs.declared.shared.Shared.{Shared}
use Rattle.ppq_pass.specs.declared.parts.PassParts.{PassParts}
use Rattle.ppq_pass.specs.Passing.{IsPass, items_at, pass_stock}
use Rattle.ppq_pass.specs.Passed.{slots_of}

module _ {R : Type 0} where
  -- A run in buffers of a pass was a full heap: all its records are there, none of its buffers is spent, and they are of the block size
  pub record IsPassRun (block heap : ℕ) (run : Run R) : Type 0 where
    pub whole : length (items_of run) ≡ heap
    pub spent : run.spent ≡ []
    pub blocks : RunHasBlock block run
    pub fitting : All IsFitting (buffers_of run)

module _ {S R : Type 0} where
  -- the row and the pool of a pass
  abbrev pub shared_of : PassParts S R → Shared S R
  shared_of parts = record { row = parts.row_seat.row; pool = parts.pool_seat.pool }

  module _ (shown : S → Shown) where
    -- A run in blocks of a pass has at least a full heap. It is of level 0, nothing of it is loaded, all its blocks are full, and each was
    -- written
    pub record IsPassArray (width block heap : ℕ) (a : External S R) : Type 0 where
      pub whole : heap ≤ size_of a
      pub level : a.level ≡ 0
      pub loaded : a.loaded ≡ run_of [] 0 []
      pub lifted : a.lifted ≡ []
      pub size : HasSlots shown (block * width) a
      pub full : All (λ (b : DeviceBlock S R). b.count ≡ block) a.stored
      pub written : All (λ (b : DeviceBlock S R). 1 ≤ (shown b.slot).writes) a.stored

    -- what a pass keeps, as a supply
    abbrev pub stock_of : PassParts S R → Stock
    stock_of parts = pass_stock shown parts.row_seat parts.stash parts.numbers.items parts.block parts.dry parts.scant parts.room_when_scant

    -- the slots that a pass drew, as they were put into the row
    abbrev pub drawn_of : PassParts S R → List Shown
    drawn_of parts = slots_shown shown (items_at parts.row_seat.hand.items parts.row_seat.hand.places)

    -- all slots that a pass holds, and all that it can still draw
    abbrev pub all_slots : PassBody S R → PassParts S R → List Shown
    all_slots body parts = slots_of shown body parts ++ slots_shown shown parts.row_seat.hand.items

    -- What holds always. The parts fit the sizes: no more buffers are shared than the budget has, and no more slots than the device. The
    -- slots of its runs and its stash are those that it drew, and the buffers of its runs are those whose numbers it has; two more are idle.
    -- Its lists have room for one run more than they can ever have
    pub record IsPassed (width : ℕ) (n : Numbers) (heap : Contents R) (body : PassBody S R) (parts : PassParts S R) (refused : Bool) (failed : Option ℕ) : Type 0 where
      pub range : AreInRange n
      pub supply : IsPass shown width (shared_of parts) parts.row_seat parts.pool_seat parts.stash parts.numbers parts.block parts.dry parts.scant
      pub block : parts.block ≡ n.block
      pub cap : heap.cap ≡ heap_of n
      pub in_heap : length heap.items ≤ heap_of n
      pub few_buffers : count_of parts.pool_seat.pool ≤ pool_of n
      pub few_slots : length parts.row_seat.hand.items ≤ n.blocks
      pub slots : SameSlots (drawn_of parts) (slots_of shown body parts)
      -- as many of those do not tell as of these
      pub untold : SameUntold (drawn_of parts) (slots_of shown body parts)
      pub writes : all_writes (drawn_of parts) ≤ all_writes (slots_of shown body parts)
      pub buffers : (held_by shown body).buffers ≡ length parts.numbers.items + 2
      pub size : HasOneSize shown width body (stock_of parts)
      pub takes_back : CanTakeBack shown (stock_of parts) body.runs.internal.items body.runs.external.items
      pub no_job : body.lanes.jobs.items ≡ []
      pub two : length body.lanes.idle ≡ 2
      pub internal_room : pool_of n / n.heap < vec_capacity body.runs.internal
      pub external_room : n.blocks / n.heap < vec_capacity body.runs.external
      pub leaves : pool_of n / n.heap < length body.tree.items
      pub ended : refused ≡ true → 0 < parts.dry
      pub fault : (number : ℕ) → failed ≡ Some number → HasFailed number (slots_of shown body parts) × (length heap.items ≡ heap_of n)

    -- What holds unless a fault was met. No call of a slot that the pass holds failed since the pass drew it. Each run was a full heap or
    -- more, and ascends: those in blocks where slots tell. All records are counted. Where there are runs, the heap has a record. The stash
    -- has no more slots than the records in memory fill, and after a refusal there are as many records as a heap holds
    pub record IsSoundPass (cmp : R → R → Ordering) (record_of : List ℕ → R) (width : ℕ) (n : Numbers) (heap : Contents R) (body : PassBody S R) (parts : PassParts S R) (begun accepted : ℕ) (refused : Bool) : Type 0 where
      pub quiet : AreQuiet (drawn_of parts) (slots_of shown body parts)
      pub internal : All (IsPassRun n.block (heap_of n)) body.runs.internal.items
      pub external : All (IsPassArray width n.block (heap_of n)) body.runs.external.items
      pub ascend : All (λ (run : Run R). Ascends cmp (items_of run)) body.runs.internal.items
      pub rise : AllTell (all_slots body parts) → All (λ (a : External S R). Ascends cmp (records_in record_of width shown a)) body.runs.external.items
      pub counted : length heap.items + count_in body.runs.internal.items body.runs.external.items ≡ begun + accepted
      pub some : 0 < count_in body.runs.internal.items body.runs.external.items → 0 < length heap.items
      pub stash : length parts.stash * n.block ≤ length heap.items + in_buffers body
      pub whole : refused ≡ true → heap_of n ≤ length heap.items + count_in body.runs.internal.items body.runs.external.items

    -- what was written of the slots that a pass holds, and what its runs and the records in memory may still cost
    abbrev pub pass_account : Numbers → Contents R → PassBody S R → PassParts S R → Account
    pass_account n heap body parts = beside (length heap.items) (body_account n.block (slots_of shown body parts) body)

    -- The records that it accepted and the stores that it began pay for what was written of its slots since it drew them, beside the records that
    -- it had in the beginning; and no more blocks of them were read than written, while their counts are exact
    abbrev pub IsPassCounted : Numbers → Contents R → PassBody S R → PassParts S R → ℕ → ℕ → ℕ → Option ℕ → Type 0
    IsPassCounted n heap body parts begun accepted stores failed = IsCountedFrom n.workers n.block begun (all_writes (drawn_of parts)) (all_reads (drawn_of parts)) (failed ≡ None) (tally accepted stores 0) (pass_account n heap body parts)

    -- all three, of parts that are there
    abbrev pub IsPassing : (R → R → Ordering) → (List ℕ → R) → ℕ → Numbers → Contents R → PassBody S R → Option (PassParts S R) → ℕ → ℕ → Bool → Option ℕ → ℕ → Type 0
    IsPassing cmp record_of width n heap body (Some parts) begun accepted refused failed stores =
        IsPassed width n heap body parts refused failed × (failed ≡ None → IsSoundPass cmp record_of width n heap body parts begun accepted refused) × IsPassCounted n heap body parts begun accepted stores failed
    IsPassing cmp record_of width n heap body None begun accepted refused failed stores = ⊥
