-- What a beginning of a session has done to its queue before it may say that an allocation failed.
use Rattle.std.specs.Prelude.{◌≡◌, ◌≤◌, ◌*◌, ⊤}
use Rattle.ppq_pass.specs.ppq_budget.Sizes.{pool_of}
use Rattle.ppq_queue.specs.Holding.{Holding, SameRecords}
use Rattle.ppq_session.specs.declared.fault.BeginFault.{BeginFault}
use Rattle.ppq_session.specs.declared.fault.BeginFault.TheVariants.{Memory, NoFreeBlock, Device}

module _ {R : Type 0} where
  -- The queue has the same records, and no call of a slot failed. What was left in its extract buffer is stored, and its levels are settled
  pub record IsReadied (old new : Holding R) : Type 0 where
    pub same : SameRecords old new
    pub emptied : new.in_extract ≡ 0
    pub settled : new.runs ≤ 64

  -- for a bulk session: its heaps are as they were, and half of the budget's pool is idle at least
  pub record IsReadyForBulk (old new : Holding R) : Type 0 where
    pub readied : IsReadied old new
    pub heaps : new.in_heap ≡ old.in_heap
    pub first : new.in_first ≡ old.in_first
    pub half : pool_of new.sizes ≤ 2 * new.idle

  -- for a limit session: its heaps are stored too, so all its records are in runs
  pub record IsReadyForLimit (old new : Holding R) : Type 0 where
    pub readied : IsReadied old new
    pub heaps : new.in_heap ≡ 0

  -- an allocation failed only once the queue was ready for a bulk session: after all stores and merges, each of which succeeded
  abbrev pub MemoryLeavesBulkReady : Holding R → Holding R → BeginFault → Type 0
  MemoryLeavesBulkReady old new Memory = IsReadyForBulk old new
  MemoryLeavesBulkReady old new NoFreeBlock = ⊤
  MemoryLeavesBulkReady old new (Device number) = ⊤

  -- the same of a limit session
  abbrev pub MemoryLeavesLimitReady : Holding R → Holding R → BeginFault → Type 0
  MemoryLeavesLimitReady old new Memory = IsReadyForLimit old new
  MemoryLeavesLimitReady old new NoFreeBlock = ⊤
  MemoryLeavesLimitReady old new (Device number) = ⊤
