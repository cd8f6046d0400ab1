-- What a queue holds.
use Rattle.std.specs.Prelude.{◌≡◌, ◌<◌, ◌≤◌, ◌+◌, ◌-◌, ◌*◌, ◌↔◌, ℕ, Bool, true, false, cond, nat_lt, List, ◌∷◌, length, max, min, Option, Some, None, IsNone, Result, Ok, Err, OnOk, OnErr, IfErr, ⊤, All}
use Rattle.std.specs.declared.cmp.Ordering.{Ordering}
use Rattle.ppq_heap.specs.ppq_record.Bag.{IsSameBag, least, without_front}
use Rattle.ppq_extract.specs.ppq_budget.Sizes.{Numbers, fixed_of, batch_of, heap_of, blocks_for, room_of}
use Rattle.ppq_extract.specs.ppq_outside.Shown.{Shown, AllTell}
use Rattle.ppq_extract.specs.ppq_array.Kept.{SameSlots, HasFailed, AreQuiet, all_writes}
use Rattle.ppq_spill.specs.ppq_counts.Tally.{Tally, last, accepting, storing, beginning, IsBacked}
use Rattle.ppq_extract.specs.ppq_array.declared.store_fault.StoreFault.{StoreFault}
use Rattle.ppq_extract.specs.ppq_array.declared.store_fault.StoreFault.TheVariants.{NoFreeBlock, Device}
use Rattle.ppq_queue.specs.declared.fault.OpenFault.{OpenFault}
use Rattle.ppq_queue.specs.declared.fault.OpenFault.TheVariants.{TooSmall, Memory}

-- The multiset of its records, as far as its slots tell; how many records it counts; its sizes; the greatest size that it had or was to get
-- by a push; all its slots, in some order, and how many of them are free; the number of the slot a call of which failed first, if any;
-- how many records its heaps have, how many the first of them, and how many its extract buffer; how many runs in blocks there are, and
-- how many of them a level has at the most; how many buffers of a block each, and how many of those of the pool no run has; whether a limit
-- session was begun, which stores heaps that are not full; and how many records it accepted, stores of a full heap it began, and sessions
pub record Holding (R : Type 0) : Type 0 where
  pub bag : List R
  pub size : ℕ
  pub sizes : Numbers
  pub peak : ℕ
  pub slots : List Shown
  pub free : ℕ
  pub failed : Option ℕ
  pub in_heap : ℕ
  pub in_first : ℕ
  pub in_extract : ℕ
  pub runs : ℕ
  pub crowd : ℕ
  pub buffers : ℕ
  pub idle : ℕ
  pub limited : Bool
  pub counts : Tally

-- the peak is above what one heap holds, unless a limit session was begun
abbrev pub IsAbove : Numbers → ℕ → Bool → Type 0
IsAbove sizes peak limited = limited ≡ false → heap_of sizes < peak

-- how many slots are in use; of each the first record is kept in memory
abbrev pub in_use : {R : Type 0} → Holding R → ℕ
in_use q = length q.slots - q.free

-- the records that count against the budget: those of the heaps and the extract buffer, the first of each block in use, a batch that is
-- dealt and one that is given out, both counted as full, and a block for each buffer that exists
abbrev pub resident_of : {R : Type 0} → Holding R → ℕ
resident_of q = q.in_heap + q.in_extract + in_use q + 2 * batch_of q.sizes + q.buffers * q.sizes.block

-- how many records its runs have
abbrev pub in_runs : {R : Type 0} → Holding R → ℕ
in_runs q = q.size - q.in_heap - q.in_extract

-- What so many blocks and so many buffers are used for, where so many runs in blocks are there, and all runs have so many records. Each run in
-- blocks has a record. A block in use is full of records but for one of each run, and but for 65 in all. And no record is anywhere else: the
-- blocks and the buffers have room for all
pub record AreUsed (sizes : Numbers) (blocks buffers runs records : ℕ) : Type 0 where
  pub some : runs ≤ records
  pub filled : blocks * sizes.block ≤ records + min runs 65 * sizes.block
  pub enough : records ≤ (blocks + buffers) * sizes.block

-- what the blocks in use, and the buffers that are not idle, are used for
pub record UsesBlocks {R : Type 0} (q : Holding R) : Type 0 where
  pub apart : q.in_heap + q.in_extract ≤ q.size
  pub used : AreUsed q.sizes (in_use q) (q.buffers - q.idle) q.runs (in_runs q)

-- a slot of so many bytes that was not called yet
pub record IsNewSlot (bytes : ℕ) (slot : Shown) : Type 0 where
  pub size : slot.size ≡ bytes
  pub no_fault : slot.faults ≡ 0
  pub no_write : slot.writes ≡ 0
  pub no_read : slot.reads ≡ 0

-- a slot was read no more often than it was written
abbrev pub IsSpent : Shown → Type 0
IsSpent slot = slot.reads ≤ slot.writes

-- as many slots as the device has blocks, each of the bytes of a block, and none called yet
pub record AreNewSlots (sizes : Numbers) (width : ℕ) (slots : List Shown) : Type 0 where
  pub count : length slots ≡ sizes.blocks
  pub fresh : All (IsNewSlot (sizes.block * width)) slots

-- a refusal of an opening says that the budget is too small only where it is, and how much it needs
abbrev pub NamesNeed : Numbers → OpenFault → Type 0
NamesNeed sizes (TooSmall need) = (sizes.memory < fixed_of sizes) × (need ≡ fixed_of sizes)
NamesNeed sizes Memory = ⊤

module _ {R : Type 0} where
  -- the queue with one record more in its first heap, and with these records; no slot and no run has changed
  abbrev pub with_one : Holding R → List R → Holding R
  with_one old bag = record old { bag = bag; size = old.size + 1; peak = max old.peak (old.size + 1); in_heap = old.in_heap + 1; in_first = old.in_first + 1; counts = accepting 1 old.counts }

  -- a session is begun, which counts it
  abbrev pub session_begun : Holding R → Holding R
  session_begun q = record q { counts = beginning q.counts }

  -- a limit session is begun, which is noted too
  abbrev pub limit_begun : Holding R → Holding R
  limit_begun q = record q { limited = true; counts = beginning q.counts }

  -- its numbers once there is room for a record in its first heap: if that was full, a store of it was begun
  abbrev pub begun_push : Holding R → Tally
  begun_push q = cond (nat_lt q.in_first (heap_of q.sizes)) q.counts (storing q.counts)

  -- its numbers after a push with this answer
  abbrev pub after_push : {T E : Type 0} → Result T E → Holding R → Tally
  after_push (Ok value) q = accepting 1 (begun_push q)
  after_push (Err fault) q = begun_push q

  -- The law of its numbers: its stores of full heaps, and so many records in heaps, were made of accepted records, as long as their number counts
  abbrev pub IsBackedBeside : ℕ → Holding R → Type 0
  IsBackedBeside in_heaps q = q.counts.accepted < last → IsBacked (heap_of q.sizes) 0 in_heaps q.counts

  -- with all records of its heaps
  abbrev pub IsBackedQueue : Holding R → Type 0
  IsBackedQueue q = IsBackedBeside q.in_heap q

  -- with none of them
  abbrev pub AreStoresBacked : Holding R → Type 0
  AreStoresBacked q = IsBackedBeside 0 q

  -- without those of a full heap, whose store was begun and refused
  abbrev pub IsBackedWithout : Holding R → Type 0
  IsBackedWithout q = IsBackedBeside (q.in_heap - heap_of q.sizes) q

  -- the queue has these numbers, and no more records in its heaps
  pub record CountsAs (t : Tally) (old new : Holding R) : Type 0 where
    pub counts : new.counts ≡ t
    pub heaps : new.in_heap ≤ old.in_heap

  -- what a push does to its numbers, unless a block failed before: a store of the first heap counts if that was full, whatever is returned, and the
  -- record if it was accepted. The law stays, after a refusal without the records of the heap whose store was begun
  pub record CountsPush {T E : Type 0} (old new : Holding R) (r : Result T E) : Type 0 where
    pub counts : old.failed ≡ None → new.counts ≡ after_push r old
    pub backed : OnOk r (IsBackedQueue old → IsBackedQueue new)
    pub unbacked : OnErr r (IsBackedQueue old → IsBackedWithout new)

  -- what room that is made in the first heap does to them
  pub record CountsRoom {T E : Type 0} (old new : Holding R) (r : Result T E) : Type 0 where
    pub counts : new.counts ≡ begun_push old
    pub backed : OnOk r (IsBackedQueue old → IsBackedQueue new)
    pub unbacked : OnErr r (IsBackedQueue old → IsBackedWithout new)

  -- what a store of the first heap does to them, of which no record is in a heap then
  pub record CountsStore {T E : Type 0} (old new : Holding R) (r : Result T E) : Type 0 where
    pub counts : CountsAs (storing old.counts) old new
    pub left : OnOk r (new.in_heap + old.in_first ≤ old.in_heap)

  -- Calls accepted no more than so many records, and began no more than so many sessions. The law stays, after a refusal of the stores alone
  pub record CountsFew {T E : Type 0} (records begun : ℕ) (old new : Holding R) (r : Result T E) : Type 0 where
    pub accepted : new.counts.accepted ≤ old.counts.accepted + records
    pub sessions : new.counts.sessions ≤ old.counts.sessions + begun
    pub backed : OnOk r (IsBackedQueue old → IsBackedQueue new)
    pub unbacked : OnErr r (IsBackedQueue old → AreStoresBacked new)

  -- the same records, and no call failed
  pub record SameRecords (old new : Holding R) : Type 0 where
    pub quiet : AreQuiet old.slots new.slots
    pub bag : AllTell old.slots → IsSameBag new.bag old.bag
    pub size : new.size ≡ old.size
    pub sound : new.failed ≡ None

  -- whatever is answered: its sizes stay, and whether a limit session was begun; the slots stay, those that tell go on telling, and no write is
  -- forgotten
  pub record Keeps (old new : Holding R) : Type 0 where
    pub sizes : new.sizes ≡ old.sizes
    pub limited : new.limited ≡ old.limited
    pub slots : SameSlots old.slots new.slots
    pub tells : AllTell old.slots → AllTell new.slots
    pub writes : all_writes old.slots ≤ all_writes new.slots

  -- the same; and as many records are counted, and the peak stays
  pub record Stays (old new : Holding R) : Type 0 where
    pub keeps : Keeps old new
    pub size : new.size ≡ old.size
    pub peak : new.peak ≡ old.peak

  -- no call failed, and the extract buffer is empty only if no run is left
  pub record IsReady (q : Holding R) : Type 0 where
    pub sound : q.failed ≡ None
    pub some : q.in_extract ≡ 0 → q.size ≡ q.in_heap

  -- the queue has this record more; no call failed
  pub record HasAdded (r : R) (old new : Holding R) : Type 0 where
    pub bag : AllTell old.slots → IsSameBag new.bag (r ∷ old.bag)
    pub size : new.size ≡ old.size + 1
    pub sound : new.failed ≡ None
    pub quiet : AreQuiet old.slots new.slots

  -- the smallest record left the queue, if there was one; no call failed
  pub record HasTaken (cmp : R → R → Ordering) (old new : Holding R) : Type 0 where
    pub bag : AllTell old.slots → IsSameBag new.bag (without_front cmp old.bag 1)
    pub size : new.size ≡ old.size - 1
    pub sound : new.failed ≡ None
    pub quiet : AreQuiet old.slots new.slots

  -- No block was free: the multiset is as it was, where slots tell, and no call failed. Fewer slots are free than a merge or a store may want; the
  -- device has fewer blocks than are enough for the peak; and the peak is above what one heap holds, unless a limit session was begun
  pub record FoundNoBlock (old new : Holding R) : Type 0 where
    pub bag : AllTell old.slots → IsSameBag new.bag old.bag
    pub size : new.size ≡ old.size
    pub sound : new.failed ≡ None
    pub quiet : AreQuiet old.slots new.slots
    pub free : new.free < max (8 + new.sizes.workers) (blocks_for new.sizes new.size)
    pub room : new.sizes.blocks < room_of new.sizes new.peak
    pub above : IsAbove new.sizes new.peak new.limited

  -- a call of the slot with this number failed, now or before, and the queue keeps that number
  pub record HasStopped (number : ℕ) (new : Holding R) : Type 0 where
    pub fault : HasFailed number new.slots
    pub kept : new.failed ≡ Some number

  -- a call found that, and the queue counts the records that it counted: none came out, and none was added
  pub record MetFault (number : ℕ) (old new : Holding R) : Type 0 where
    pub fault : HasFailed number new.slots
    pub kept : new.failed ≡ Some number
    pub size : new.size ≡ old.size

  -- what stands after a refusal
  abbrev pub IsRefusal : Holding R → Holding R → StoreFault → Type 0
  IsRefusal old new NoFreeBlock = FoundNoBlock old new
  IsRefusal old new (Device number) = MetFault number old new

  -- a block that failed before is named again, and nothing is done
  abbrev pub NamesAgain : {T : Type 0} → (old new : Holding R) → Result T StoreFault → Type 0
  NamesAgain old new r = (number : ℕ) → old.failed ≡ Some number → (r ≡ Err (Device number)) × (new ≡ old)

  -- what a call leaves that takes no record out and adds none: the same records if it is Ok, what a refusal means, and what stays whatever is returned
  pub record QueueLeaves {T : Type 0} (old new : Holding R) (r : Result T StoreFault) : Type 0 where
    pub same : OnOk r (SameRecords old new)
    pub refused : IfErr r (IsRefusal old new)
    pub latched : NamesAgain old new r
    pub stays : Stays old new

  -- no call failed, the first heap has room for a record, and the peak counts it already
  pub record MayPut (q : Holding R) : Type 0 where
    pub sound : q.failed ≡ None
    pub room : q.in_first < heap_of q.sizes
    pub peak : q.size < q.peak

  -- the smallest record, if there is one
  pub record IsLeast (cmp : R → R → Ordering) (q : Holding R) (one : Option R) : Type 0 where
    pub answer : AllTell q.slots → one ≡ least cmp q.bag
    pub none : IsNone one ↔ (q.size ≡ 0)

  -- the smallest record, if there is one, left the queue; no slot and no run in blocks has changed
  pub record TookLeast (cmp : R → R → Ordering) (old new : Holding R) (one : Option R) : Type 0 where
    pub least : IsLeast cmp old one
    pub rest : AllTell old.slots → IsSameBag new.bag (without_front cmp old.bag 1)
    pub heaps : new.in_heap ≤ old.in_heap
    pub fields : new ≡ record old { bag = new.bag; size = old.size - 1; in_heap = new.in_heap; in_first = new.in_first; in_extract = new.in_extract }
