-- What holds of a queue between its calls.
use Rattle.std.specs.Prelude.{◌≡◌, ℕ, ◌+◌, ◌*◌, ◌<◌, ◌≤◌, Bool, List, [], length, Option, Some, All, vec_capacity}
use Rattle.std.specs.declared.cmp.Ordering.{Ordering}
use Rattle.ppq_heap.specs.ppq_record.Order.{Ascends}
use Rattle.ppq_extract.specs.ppq_outside.Shown.{Shown, AllTell}
use Rattle.ppq_extract.specs.ppq_budget.Sizes.{Numbers, AreInRange, fixed_of, heap_of, heaps_of, batch_of, pool_of, lane_buffers}
use Rattle.ppq_heap.specs.Heaps.{Shares, items_of}
use Rattle.ppq_extract.specs.ppq_block.Block.{holding}
use Rattle.ppq_extract.specs.ppq_array.Supply.{Stock}
use Rattle.ppq_extract.specs.ppq_array.Kept.{HasFailed, all_overreads}
use Rattle.ppq_extract.specs.ppq_array.Owner.{new_owner}
use Rattle.ppq_extract.specs.ppq_fetch.Taking.{NoneAfter}
use Rattle.ppq_extract.specs.Extracted.{Held, held, ServesFor}
use Rattle.ppq_extract.specs.declared.sources.Sources.{Sources}
use Rattle.ppq_spill.specs.Body.{held_by}
use Rattle.ppq_spill.specs.declared.body.PassBody.{PassBody}
use Rattle.ppq_queue.specs.Holding.{IsAbove}
use Rattle.ppq_queue.specs.Resting.{slots_of, AtRest, runs_bag, count_of}
use Rattle.ppq_queue.specs.declared.parts.Parts.{Parts}

module _ {S R : Type 0} (shown : S → Shown) where
  -- What holds always: the parts fit the sizes, all buffers that were made are there, and so are all slots, none of which was read more often
  -- than written; the peak is no less than the size; and a call of the slot that is kept as failed did fail
  pub record IsQueue (sizes : Numbers) (heaps : Shares R) (extract : Held R) (body : PassBody S R) (stock : Stock) (count peak : ℕ) (failed : Option ℕ) : Type 0 where
    pub range : AreInRange sizes
    pub budget : fixed_of sizes ≤ sizes.memory
    pub cap : heaps.cap ≡ heap_of sizes
    pub shares : length heaps.heaps ≡ sizes.workers
    pub in_heap : length (items_of heaps) ≤ heaps_of sizes
    pub room : extract.room ≡ batch_of sizes
    pub in_extract : length extract.items ≤ batch_of sizes
    pub held : (held_by shown body).buffers ≡ lane_buffers sizes + stock.buffer_room
    pub pool : stock.sure_buffers + stock.buffer_room ≡ pool_of sizes
    pub slots : length (slots_of shown body stock) ≡ sizes.blocks
    pub overreads : all_overreads (slots_of shown body stock) ≡ 0
    pub no_row : stock.drawn ≡ []
    pub counted : count ≤ peak
    pub most : peak ≤ sizes.memory + sizes.block * sizes.blocks + 1
    pub most_count : count ≤ sizes.memory + sizes.block * sizes.blocks
    pub fault : (number : ℕ) → failed ≡ Some number → HasFailed number (slots_of shown body stock)

  -- What holds while no call of a slot has failed: all runs rest, and all records are counted. Where slots tell, the extract buffer ascends,
  -- and no record of a run is before one of its. A record that is in no heap came there by a peak above what a heap holds, or by a limit session
  pub record IsSound (cmp : R → R → Ordering) (record_of : List ℕ → R) (width : ℕ) (sizes : Numbers) (heaps : Shares R) (extract : Held R) (body : PassBody S R) (stock : Stock) (sources : Sources R) (count peak : ℕ) (limited : Bool) : Type 0 where
    pub rest : AtRest shown cmp record_of width sizes body stock
    pub counted : count ≡ length (items_of heaps) + length extract.items + count_of body
    pub ascends : AllTell (slots_of shown body stock) → Ascends cmp extract.items
    pub order : AllTell (slots_of shown body stock) → NoneAfter cmp extract.items (runs_bag shown record_of width body)
    pub above : length (items_of heaps) < count → IsAbove sizes peak limited
    pub workers : sources.bench.workers ≡ sizes.workers
    pub serves : ServesFor (pool_of sizes + 65) sources

-- a body with no runs, for a queue whose pool has so many buffers, and the buffers of its lanes
pub record IsBareBody {S R : Type 0} (sizes : Numbers) (pool : ℕ) (body : PassBody S R) : Type 0 where
  pub no_internal : body.runs.internal.items ≡ []
  pub no_external : body.runs.external.items ≡ []
  pub internal_room : pool < vec_capacity body.runs.internal
  pub external_room : sizes.blocks + 66 ≤ vec_capacity body.runs.external
  pub idle : length body.lanes.idle ≡ lane_buffers sizes
  pub blocks : All (λ b. b ≡ holding sizes.block []) body.lanes.idle
  pub no_job : body.lanes.jobs.items ≡ []
  pub batch : length body.lanes.batch.items ≡ batch_of sizes
  pub leaves : length body.tree.items ≡ pool + 1

-- the parts of a new queue
pub record AreNewParts {S R : Type 0} (sizes : Numbers) (parts : Parts S R) : Type 0 where
  pub same_sizes : parts.store.sizes ≡ sizes
  pub no_record : items_of parts.heaps ≡ []
  pub cap : parts.heaps.cap ≡ heap_of sizes
  pub shares : length parts.heaps.heaps ≡ sizes.workers
  pub body : IsBareBody sizes (pool_of sizes) parts.store.body
  pub extract : parts.store.extract ≡ held [] (batch_of sizes)
  pub workers : parts.store.sources.bench.workers ≡ sizes.workers
  pub serves : ServesFor (pool_of sizes + 65) parts.store.sources
  pub supply : parts.store.supply ≡ record (new_owner sizes.block sizes.blocks (pool_of sizes)) { sure_buffers = pool_of sizes; buffer_room = 0 }
