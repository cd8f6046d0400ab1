-- What contracts see of a bulk session.
use Rattle.std.specs.Prelude.{◌≡◌, ℕ, ◌+◌, ◌-◌, ◌*◌, Bool, false, List, [], ◌++◌, length, map, sum_by, None, All}
use Rattle.atomic_table.specs.Seated.{TableId}
use Rattle.ppq_pass.specs.ppq_record.Bag.{IsSameBag}
use Rattle.ppq_pass.specs.ppq_outside.Shown.{Shown, AllTell}
use Rattle.ppq_pass.specs.ppq_budget.Sizes.{Numbers, heaps_of, batch_of, pool_of, lane_buffers}
use Rattle.ppq_pass.specs.ppq_counts.Tally.{Tally}
use Rattle.ppq_pass.specs.ppq_array.declared.berth.DeviceBlock.{DeviceBlock}
use Rattle.ppq_pass.specs.ppq_array.Owner.{slots_shown}
use Rattle.ppq_pass.specs.ppq_pool.Seats.{count_of}
use Rattle.ppq_pass.specs.Passed.{PassKey, PassHolding}
use Rattle.ppq_pass.specs.declared.shared.Shared.{Shared}
use Rattle.ppq_queue.specs.Holding.{Holding, AreUsed, FoundNoBlock, MetFault}
use Rattle.ppq_session.specs.declared.fault.BeginFault.{BeginFault}
use Rattle.ppq_session.specs.declared.fault.BeginFault.TheVariants.{Memory, NoFreeBlock as NoBlockAtBegin, Device as DeviceAtBegin}
use Rattle.ppq_session.specs.declared.fault.SessionEnd.{SessionEnd}
use Rattle.ppq_session.specs.Ends.{Staying, HasAll, SessionEnded}
pub use Rattle.ppq_session.specs.Ends.{bag_of, accepted_of}

-- What the owner of a queue keeps while passes fill it: the multiset of the records of its runs, as far as its slots tell; how many records
-- the queue had when the session began, and how many of them are in the heaps, which the passes have; how many runs in blocks there are;
-- its sizes; the greatest size so far; whether a limit session was begun; all slots of the queue, those of the runs and those that were
-- put into the row; how many buffers of a block it has, and how many of them its runs in buffers; the row with those slots, and the pool;
-- and how many records, stores of a full heap and sessions the queue counts
pub record BulkHolding (S R : Type 0) : Type 0 where
  pub bag : List R
  pub size : ℕ
  pub begun : ℕ
  pub runs : ℕ
  pub sizes : Numbers
  pub peak : ℕ
  pub limited : Bool
  pub slots : List Shown
  pub buffers : ℕ
  pub run_buffers : ℕ
  pub row : TableId
  pub items : List (DeviceBlock S R)
  pub pool : TableId
  pub counts : Tally

-- With so many buffers at the owner, two at each pass and those of the pool, there are just the buffers of the budget: those that blocks are
-- written from and merged by, and those of the pool
abbrev pub HasBuffers : Numbers → ℕ → TableId → Type 0
HasBuffers sizes owned pool = owned + 2 * sizes.workers + count_of pool ≡ lane_buffers sizes + pool_of sizes

-- The records that count against the budget while a session goes on: a full heap for each pass; the extract buffer, a batch that is dealt and
-- one that is given out, all counted as full; the first record of each block of the device; and a block for each buffer, so many of which are
-- at the owner, two at each pass, and the others in the pool
abbrev pub resident_in : Numbers → ℕ → TableId → ℕ
resident_in sizes owned pool = heaps_of sizes + batch_of sizes + sizes.blocks + 2 * batch_of sizes + (owned + 2 * sizes.workers + count_of pool) * sizes.block

-- the pool has all buffers of the budget's pool but those of the runs in buffers
abbrev pub HasPool : Numbers → ℕ → TableId → Type 0
HasPool sizes run_buffers pool = run_buffers + count_of pool ≡ pool_of sizes

module _ {R : Type 0} where
  -- The queue as it was, in another order at most
  pub record IsIntact (old new : Holding R) : Type 0 where
    pub bag : AllTell old.slots → IsSameBag new.bag old.bag
    pub size : new.size ≡ old.size
    pub sound : new.failed ≡ None

  -- why a session did not begin, and what it left
  abbrev pub IsBeginRefusal : Holding R → Holding R → BeginFault → Type 0
  IsBeginRefusal old new Memory = IsIntact old new
  IsBeginRefusal old new NoBlockAtBegin = FoundNoBlock old new
  IsBeginRefusal old new (DeviceAtBegin number) = MetFault number old new

module _ {S R : Type 0} where
  -- the keys of passes, which no push changes
  abbrev pub keys_of : List (PassHolding S R) → List (PassKey S R)
  keys_of passes = map (λ p. p.key) passes

  -- the key of a pass of the session that began with so many records
  abbrev pub pass_key : BulkHolding S R → ℕ → PassKey S R
  pass_key bulk begun =
      record { row = bulk.row; pool = bulk.pool; items = bulk.items; row_shares = 1; pool_shares = 1; sizes = bulk.sizes; begun = begun }

  -- these are the keys of all passes of the session
  pub record AreOf (bulk : BulkHolding S R) (keys : List (PassKey S R)) : Type 0 where
    pub count : length keys ≡ bulk.sizes.workers
    pub each : All (λ (k : PassKey S R). k ≡ pass_key bulk k.begun) keys
    pub begun : sum_by (λ k. k.begun) keys ≡ bulk.begun

  -- what all passes of the session share
  abbrev pub shared_by : BulkHolding S R → Shared S R
  shared_by bulk = record { row = bulk.row; pool = bulk.pool }

  -- The row has each block that is free: of all blocks of the device those are in it that no run of the owner has. And these are used as those of a
  -- queue, for the records that are in no heap
  pub record RowHasFree (shown : S → Shown) (bulk : BulkHolding S R) : Type 0 where
    pub in_runs : List Shown
    pub all : bulk.slots ≡ in_runs ++ slots_shown shown bulk.items
    pub count : length bulk.slots ≡ bulk.sizes.blocks
    pub used : AreUsed bulk.sizes (length in_runs) bulk.buffers bulk.runs (bulk.size - bulk.begun)

  -- A pass to which nothing was pushed yet. Its records are in its heap, which was never stored. It holds two buffers, and none of the pool
  pub record IsFresh (pass : PassHolding S R) : Type 0 where
    pub buffers : pass.buffers ≡ 2
    pub numbers : pass.numbers ≡ []
    pub accepted : pass.accepted ≡ 0
    pub refused : pass.refused ≡ false
    pub failed : pass.failed ≡ None
    pub stores : pass.stores ≡ 0
    pub in_heap : pass.in_heap ≡ pass.key.begun

  -- what stays: nothing is popped in a bulk session, and no call of its slots fails
  abbrev pub of_bulk : BulkHolding S R → Staying R
  of_bulk bulk = record { bag = bulk.bag; size = bulk.size; popped = 0; sizes = bulk.sizes; peak = bulk.peak; limited = bulk.limited; slots = bulk.slots; failed = None; counts = bulk.counts }

  -- the queue has all records of the bulk and of its passes
  abbrev pub IsTogether : (S → Shown) → BulkHolding S R → List (PassHolding S R) → Holding R → Type 0
  IsTogether shown bulk passes queue = HasAll shown (of_bulk bulk) passes queue

  -- how a session ended, and what it left of its slots and sizes
  abbrev pub BulkEnded : (S → Shown) → BulkHolding S R → List (PassHolding S R) → Holding R → SessionEnd → Type 0
  BulkEnded shown bulk passes queue end = SessionEnded shown (of_bulk bulk) passes queue end
