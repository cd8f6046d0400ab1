-- Passes that are put into the parts of a queue.
use Rattle.std.specs.Prelude.{◌≡◌, ◌⊎◌, ℕ, ◌+◌, ◌-◌, ◌*◌, ◌^◌, ◌<◌, ◌≤◌, List, [], ◌∷◌, ◌++◌, length, max, min, reverse, sum_by, flat_map, Option, Some, None, All, vec_capacity}
use Rattle.std.specs.Option.{option_or}
use Rattle.std.specs.declared.cmp.Ordering.{Ordering}
use Rattle.ppq_pass.specs.ppq_outside.Shown.{Shown, AllTell}
use Rattle.ppq_pass.specs.ppq_budget.Sizes.{AreInRange, fixed_of, heap_of, batch_of, pool_of, lane_buffers}
use Rattle.ppq_pass.specs.ppq_heap.Heap.{Contents}
use Rattle.ppq_pass.specs.ppq_heap.Heaps.{items_in}
use Rattle.ppq_pass.specs.ppq_array.Owner.{HasBlock, slots_shown}
use Rattle.ppq_pass.specs.ppq_array.Kept.{HasFailed, all_overreads}
use Rattle.ppq_pass.specs.ppq_array.Supply.{Stock}
use Rattle.ppq_pass.specs.ppq_array.Holdings.{external_buffers}
use Rattle.ppq_pass.specs.ppq_extract.Extracted.{ServesFor}
use Rattle.ppq_pass.specs.ppq_fetch.Fetching.{fronts_in}
use Rattle.ppq_pass.specs.ppq_counts.Tally.{Tally, tally, joined}
use Rattle.ppq_pass.specs.ppq_counts.Account.{Account, IsCountedBeside, beside}
use Rattle.ppq_pass.specs.ppq_spill.Body.{held_by}
use Rattle.ppq_pass.specs.ppq_spill.Costing.{body_account}
use Rattle.ppq_pass.specs.ppq_spill.declared.body.PassBody.{PassBody}
use Rattle.ppq_pass.specs.Passed.{slots_of as pass_slots}
use Rattle.ppq_pass.specs.PassState.{drawn_of}
use Rattle.ppq_queue.specs.Slots.{SameSums, with_slots}
use Rattle.ppq_queue.specs.Resting.{IsRestingRun, IsRestingArray, AllRise, runs_bag, count_of, odd_in, slots_of}
use Rattle.ppq_pass.specs.ppq_record.Order.{Ascends}
use Rattle.ppq_pass.specs.ppq_fetch.Taking.{NoneAfter}
use Rattle.ppq_pass.specs.ppq_record.Bag.{IsSameBag}
use Rattle.ppq_queue.specs.Holding.{Holding, IsAbove}
use Rattle.ppq_session.specs.Passes.{IsBrought, pass_of}
use Rattle.ppq_session.specs.declared.brought.Brought.{Brought}
use Rattle.ppq_session.specs.declared.closed.Closed.{Closed}

-- a supply got these slots back, in any order
pub record GetsBack (slots : List Shown) (old new : Stock) : Type 0 where
  pub slots_are : SameSums (old.kept ++ slots) new.kept
  pub stock : new ≡ with_slots old new.kept new.slot_room
  pub room : new.slot_room + length slots ≡ old.slot_room

-- a body has room for the runs and the idle buffers of another
pub record CanAdopt {S R : Type 0} (to from : PassBody S R) : Type 0 where
  pub internal : length to.runs.internal.items + length from.runs.internal.items ≤ vec_capacity to.runs.internal
  pub external : length to.runs.external.items + length from.runs.external.items ≤ vec_capacity to.runs.external
  pub few : length to.lanes.idle + length from.lanes.idle < 2 ^ 32 - 1

-- what a body has that took over another's runs and idle buffers
pub record Adopted {S R : Type 0} (old from new : PassBody S R) : Type 0 where
  pub internal : new.runs.internal.items ≡ old.runs.internal.items ++ reverse from.runs.internal.items
  pub external : new.runs.external.items ≡ old.runs.external.items ++ reverse from.runs.external.items
  pub idle : new.lanes.idle ≡ old.lanes.idle ++ from.lanes.idle
  pub jobs : new.lanes.jobs ≡ old.lanes.jobs
  pub batch : new.lanes.batch ≡ old.lanes.batch
  pub tree : new.tree ≡ old.tree
  pub internal_room : vec_capacity new.runs.internal ≡ vec_capacity old.runs.internal
  pub external_room : vec_capacity new.runs.external ≡ vec_capacity old.runs.external

-- numbers with those of passes on top, the last first
abbrev pub counts_with : {S R : Type 0} → Tally → List (Brought S R) → Tally
counts_with t [] = t
counts_with t (one ∷ put) = joined (counts_with t put) (tally one.accepted one.stores 0)

-- how many records the heaps of passes have
abbrev pub heaps_in : {S R : Type 0} → List (Brought S R) → ℕ
heaps_in brought = sum_by (λ one. length one.heap.items) brought

module _ {S R : Type 0} (shown : S → Shown) where
  -- the slots of passes that are still to be put in
  abbrev pub slots_in : List (Brought S R) → List Shown
  slots_in brought = flat_map (λ one. pass_slots shown one.body one.kept.value) brought

  -- the slots that they drew, as they were put into the row
  abbrev pub drawn_in : List (Brought S R) → List Shown
  drawn_in brought = flat_map (λ one. drawn_of shown one.kept.value) brought

  -- how many buffers they have
  abbrev pub buffers_in : List (Brought S R) → ℕ
  buffers_in brought = sum_by (λ one. (held_by shown one.body).buffers) brought

  -- how many records they had in the beginning
  abbrev pub begun_in : List (Brought S R) → ℕ
  begun_in brought = sum_by (λ one. one.begun) brought

  -- how many records they accepted
  abbrev pub accepted_in : List (Brought S R) → ℕ
  accepted_in brought = sum_by (λ one. one.accepted) brought

  -- what was written, and what the runs and the heaps that are there may still cost; the slots of the passes that are to come count as these drew them
  abbrev pub gathered_account : Closed S R → List (Brought S R) → Account
  gathered_account c rest = beside (length (items_in c.heaps.items)) (body_account c.sizes.block (slots_of shown c.body c.supply ++ drawn_in rest) c.body)

  -- What holds always while passes are put in: the slots of the parts and of the passes that are to come are all that there are, and so are
  -- their buffers. Where they tell, those did that were put into the row, as they were then
  pub record IsGathering (width : ℕ) (slots items : List Shown) (c : Closed S R) (rest : List (Brought S R)) : Type 0 where
    pub range : AreInRange c.sizes
    pub budget : fixed_of c.sizes ≤ c.sizes.memory
    pub heaps : length c.heaps.items + length rest ≡ c.sizes.workers
    pub heaps_room : c.sizes.workers ≤ vec_capacity c.heaps
    pub caps : All (λ (h : Contents R). h.cap ≡ heap_of c.sizes) c.heaps.items
    pub leaves : length c.tree.items ≡ c.sizes.workers
    pub block : c.supply.block ≡ c.sizes.block
    pub no_row : c.supply.drawn ≡ []
    pub pool : c.supply.sure_buffers + c.supply.buffer_room ≡ pool_of c.sizes
    pub slot_room : length c.supply.kept + c.supply.slot_room ≡ c.sizes.blocks
    pub no_job : c.body.lanes.jobs.items ≡ []
    pub holds : (held_by shown c.body).buffers + buffers_in rest ≡ lane_buffers c.sizes + c.supply.buffer_room
    pub all_slots : length slots ≡ c.sizes.blocks
    pub overreads : all_overreads slots ≡ 0
    pub sums : SameSums (slots_of shown c.body c.supply ++ slots_in rest) slots
    pub told : AllTell slots → AllTell items
    pub fault : (number : ℕ) → c.failed ≡ Some number → HasFailed number slots
    pub extract_room : c.extract.room ≡ batch_of c.sizes
    pub in_extract : length c.extract.items ≤ batch_of c.sizes
    pub workers : c.sources.bench.workers ≡ c.sizes.workers
    pub serves : ServesFor (pool_of c.sizes + 65) c.sources
    pub no_slot : c.slots.items ≡ []
    pub slots_room : c.sizes.blocks ≤ vec_capacity c.slots
    pub most_peak : c.peak ≤ c.sizes.memory + c.sizes.block * c.sizes.blocks + 1

  module _ (cmp : R → R → Ordering) (record_of : List ℕ → R) (width : ℕ) where
    -- What holds while no fault was met: the runs rest, and where slots tell, they ascend; all records are counted. Two idle buffers of
    -- each pass are to come. A record that is in no heap came there by a peak above what a heap holds, by a limit session, or there are
    -- more records than a heap holds. Where slots tell, the extract buffer ascends, and no record of it is after one of a run, nor after
    -- one of a run of a pass that is to come
    pub record IsSoundSoFar (c : Closed S R) (rest : List (Brought S R)) : Type 0 where
      pub idle : All (HasBlock c.sizes.block) c.body.lanes.idle
      pub internal : All (IsRestingRun c.sizes.block) c.body.runs.internal.items
      pub external : All (IsRestingArray shown width c.sizes.block) c.body.runs.external.items
      pub batch : length c.body.lanes.batch.items ≡ batch_of c.sizes
      pub buffers : length c.body.lanes.idle + 2 * length rest + external_buffers c.body.runs.external.items ≡ lane_buffers c.sizes
      pub bounded : external_buffers c.body.runs.external.items ≤ fronts_in c.body.runs.external.items + c.sizes.workers
      pub fronts : fronts_in c.body.runs.external.items ≤ 64
      pub few : odd_in c.sizes.block c.body.runs.external.items ≤ 65
      pub internal_room : pool_of c.sizes < vec_capacity c.body.runs.internal
      pub external_room : c.sizes.blocks + 66 ≤ vec_capacity c.body.runs.external
      pub tree : pool_of c.sizes < length c.body.tree.items
      pub rise : AllTell (slots_of shown c.body c.supply ++ slots_in rest) → AllRise shown cmp record_of width c.body
      pub small : c.count + length rest * 34359738368 ≤ 4398046511104
      pub counted : c.count ≡ length (items_in c.heaps.items) + length c.extract.items + count_of c.body + begun_in rest
      pub above : 0 < length c.extract.items + count_of c.body → IsAbove c.sizes c.peak c.limited ⊎ (heap_of c.sizes < length (items_in c.heaps.items) + length c.extract.items + count_of c.body)
      pub ascends : AllTell (slots_of shown c.body c.supply ++ slots_in rest) → Ascends cmp c.extract.items
      pub order : AllTell (slots_of shown c.body c.supply ++ slots_in rest) → NoneAfter cmp c.extract.items (runs_bag shown record_of width c.body)
      pub order_rest : AllTell (slots_of shown c.body c.supply ++ slots_in rest) → All (λ (one : Brought S R). one.failed ≡ None → NoneAfter cmp c.extract.items (runs_bag shown record_of width one.body)) rest

    -- all that holds, with the passes that are to come; the numbers pay for these, too
    pub record IsGathered (slots items : List Shown) (c : Closed S R) (rest : List (Brought S R)) : Type 0 where
      pub always : IsGathering width slots items c rest
      pub each : All (IsBrought shown record_of width c.sizes cmp) rest
      pub items_are : All (λ (one : Brought S R). slots_shown shown one.kept.value.row_seat.hand.items ≡ items) rest
      pub sound : c.failed ≡ None → IsSoundSoFar c rest
      pub counted : IsCountedBeside c.sizes.workers c.sizes.block (begun_in rest) (c.failed ≡ None) c.counts (gathered_account c rest)

    -- the records of the parts and of the passes that are to come
    abbrev pub gathered_bag : Closed S R → List (Brought S R) → List R
    gathered_bag c rest = items_in c.heaps.items ++ c.extract.items ++ runs_bag shown record_of width c.body ++ flat_map (λ (one : Brought S R). (pass_of shown record_of width c.sizes one).bag) rest

    -- these passes can be put in, whichever come later
    pub record MayGather (put : List (Brought S R)) (c : Closed S R) : Type 0 where
      pub slots : List Shown
      pub items : List Shown
      pub rest : List (Brought S R)
      pub is : IsGathered slots items c (rest ++ put)

    -- They were put in, whichever come later. Unless the parts name a fault then, none was met, and they have the passes' records
    pub record Gathers (put : List (Brought S R)) (old new : Closed S R) : Type 0 where
      pub gathered : (slots items : List Shown) (rest : List (Brought S R)) → IsGathered slots items old (rest ++ put) → IsGathered slots items new rest
      pub bag : new.failed ≡ None → (rest : List (Brought S R)) → IsSameBag (gathered_bag new rest) (gathered_bag old (rest ++ put))
      pub failed : new.failed ≡ None → (old.failed ≡ None) × All (λ (one : Brought S R). one.failed ≡ None) put
      pub size : new.failed ≡ None → new.count ≡ old.count + accepted_in put
      pub counts : (most : ℕ) → most < 2 ^ 64 → min new.count most ≡ min (old.count + accepted_in put) most
      pub sizes : new.sizes ≡ old.sizes
      pub peak : new.peak ≡ old.peak
      pub limited : new.limited ≡ old.limited
      pub tally : new.counts ≡ counts_with old.counts put
      pub heaps : length (items_in new.heaps.items) ≡ length (items_in old.heaps.items) + heaps_in put

    -- What a queue shows that was made of the parts into which all passes were put. So many records were popped, which count in its peak; and
    -- this is the number of the first fault, if one was met
    pub record IsMade (popped : ℕ) (first : Option ℕ) (c : Closed S R) (queue : Holding R) : Type 0 where
      pub bag : queue.bag ≡ gathered_bag c []
      pub slots : queue.slots ≡ slots_of shown c.body c.supply
      pub failed : queue.failed ≡ option_or first c.failed
      pub size : c.failed ≡ None → queue.size ≡ c.count
      pub counts : queue.size ≡ min c.count (c.sizes.memory + c.sizes.block * c.sizes.blocks)
      pub peak : queue.peak ≡ max c.peak (min (c.count + popped) (c.sizes.memory + c.sizes.block * c.sizes.blocks))
      pub sizes : queue.sizes ≡ c.sizes
      pub limited : queue.limited ≡ c.limited
      pub tally : queue.counts ≡ c.counts
      pub heaps : queue.in_heap ≡ length (items_in c.heaps.items)
