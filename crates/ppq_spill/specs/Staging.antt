-- Records that are put into buffers, each with a slot, to be written as the next blocks, while the next ones are taken.
use Rattle.std.specs.Prelude.{◌≡◌, ℕ, ◌+◌, ◌-◌, ◌*◌, ◌<◌, ◌≤◌, ◌^◌, List, [], ◌++◌, length, map, take, flat_map, All, min, None, Result, Ok, Err}
use Rattle.std.specs.declared.cmp.Ordering.{Ordering}
use Rattle.ppq_fetch.specs.ppq_block.Block.{Block, holding}
use Rattle.ppq_fetch.specs.ppq_outside.Shown.{Shown}
use Rattle.ppq_fetch.specs.ppq_lane.declared.job.Job.{Job}
use Rattle.ppq_fetch.specs.ppq_array.declared.berth.DeviceBlock.{DeviceBlock}
use Rattle.ppq_fetch.specs.ppq_array.declared.store_fault.StoreFault.{StoreFault}
use Rattle.ppq_fetch.specs.ppq_array.Owner.{HasBlock, HasSlot, slots_shown}
use Rattle.ppq_fetch.specs.ppq_array.Kept.{SameSums}
use Rattle.ppq_fetch.specs.ppq_array.Supply.{Stock}
use Rattle.ppq_fetch.specs.Fetching.{State, count_in, MayFetch, AreSources, Fetched, PartsKept}
use Rattle.ppq_spill.specs.Grouping.{IsWrite, slot_of, buf_of}
use Rattle.ppq_spill.specs.Making.{SameRest, IsFaultOf}

module _ {R : Type 0} where
  -- The records stand in buffers, in order; each buffer but the last is full
  pub record StandIn (block : ℕ) (records : List R) (bufs : List (Block R)) : Type 0 where
    pub each : All (λ (b : Block R). b ≡ holding block b.items) bufs
    pub some : All (λ (b : Block R). 0 < length b.items) bufs
    pub fit : All (λ (b : Block R). length b.items ≤ block) bufs
    pub all : flat_map (λ (b : Block R). b.items) bufs ≡ records
    pub full : All (λ (b : Block R). length b.items ≡ block) (take (length bufs - 1) bufs)
    pub tight : length bufs * block < length records + block

module _ {S R : Type 0} where
  -- n records may be put into idle buffers, each with a slot: there are enough of both, and room for the jobs
  pub record MayStage (shown : S → Shown) (width block n room : ℕ) (idle : List (Block R)) (berths : List (DeviceBlock S R)) (stock : Stock) (jobs : List (Job (DeviceBlock S R) R)) : Type 0 where
    pub block_is : block ≡ stock.block
    pub some : 1 ≤ block
    pub small : block ≤ 65536
    pub enough : n ≤ length idle * block
    pub blocks : All (HasBlock block) idle
    pub no_job : jobs ≡ []
    pub job_room : n ≤ room * block
    pub slots : n ≤ (length berths + length stock.kept) * block
    pub sizes : All (HasSlot shown (block * width)) berths
    pub few : n ≤ (2 ^ 32 - 2) * block

  -- Records were put into idle buffers, and each buffer got a slot, of those in hand or of those that the supply kept
  pub record Staged (width block : ℕ) (shown : S → Shown) (records : List R) (idle idle' : List (Block R)) (berths berths' : List (DeviceBlock S R)) (stock stock' : Stock) (jobs : List (Job (DeviceBlock S R) R)) : Type 0 where
    pub write : All IsWrite jobs
    pub stand : StandIn block records (map buf_of jobs)
    pub moved : SameSums (slots_shown shown berths ++ stock.kept) (slots_shown shown (map slot_of jobs) ++ (slots_shown shown berths' ++ stock'.kept))
    pub room : stock'.slot_room + length berths ≡ stock.slot_room + length jobs + length berths'
    pub left : length berths' ≡ length berths - length jobs
    pub rest : SameRest stock stock'
    pub sized : All (HasSlot shown (block * width)) (map slot_of jobs)
    pub sizes : All (HasSlot shown (block * width)) berths'
    pub idle_left : length idle' + length jobs ≡ length idle
    pub blocks : All (HasBlock block) idle'

  -- a batch of the records of 8 arrays may be taken
  pub record MayTake (shown : S → Shown) (width workers places : ℕ) (s : State S R) : Type 0 where
    pub eight : length s.external ≡ 8
    pub may : MayFetch shown width workers s
    pub bench : 8 ≤ places

  -- so many records were taken into a batch, all there are or as many as it has room for
  pub record TookBatch (cmp : R → R → Ordering) (record_of : List ℕ → R) (width workers : ℕ) (shown : S → Shown) (old new : State S R) (batch : List R) (count : ℕ) : Type 0 where
    pub within : count ≤ length batch
    pub taken : Fetched cmp record_of width shown None old new (take count batch)
    pub all : count ≡ min (length batch) (count_in old.internal old.external)
    pub may : MayFetch shown width workers new

  -- a read failed
  pub record ReadFailed (shown : S → Shown) (width workers : ℕ) (old new : State S R) (fault : StoreFault) : Type 0 where
    pub sources : AreSources shown width workers new
    pub failed : IsFaultOf new.stock fault
    pub parts : PartsKept shown old new

  -- how the taking of a batch ends
  abbrev pub Takes : (R → R → Ordering) → (List ℕ → R) → ℕ → ℕ → (S → Shown) → State S R → State S R → List R → Result ℕ StoreFault → Type 0
  Takes cmp record_of width workers shown old new batch (Ok count) = TookBatch cmp record_of width workers shown old new batch count
  Takes cmp record_of width workers shown old new batch (Err fault) = ReadFailed shown width workers old new fault
