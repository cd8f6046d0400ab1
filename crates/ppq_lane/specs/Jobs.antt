-- What a job may ask of its slot, and what running it does.
use Rattle.std.specs.Prelude.{◌≡◌, ℕ, ◌*◌, ◌≤◌, List, [], length, Some, Result, OnOk, OnErr}
use Rattle.ppq_block.specs.ppq_record.Given.{records_from}
use Rattle.ppq_block.specs.Block.{Block, IsSettled, holding, padded}
use Rattle.ppq_block.specs.Told.{records_told}
use Rattle.ppq_outside.specs.Shown.{Shown, IsWritten, IsRead, Tells}
use Rattle.ppq_outside.specs.declared.fault.Failed.{Failed}
use Rattle.ppq_lane.specs.declared.job.Job.{Job}
use Rattle.ppq_lane.specs.declared.job.JobKind.{JobKind}
use Rattle.ppq_lane.specs.declared.job.JobKind.TheVariants.{Write, Read}

module _ {R : Type 0} where
  -- the buffer can be written, or have so many records after a read
  abbrev pub FitsKind : JobKind → Block R → Type 0
  FitsKind Write buf = IsSettled buf
  FitsKind (Read count) buf = count ≤ buf.block

  -- a read of a block of so many records into a buffer, from before to now
  pub record IsReadInto {T E : Type 0} (record_of : List ℕ → R) (width count : ℕ) (answer : Result T E) (slot slot' : Shown) (buf buf' : Block R) : Type 0 where
    pub bytes : List ℕ
    pub read : IsRead answer bytes slot slot'
    -- the buffer has the records that the bytes stand for
    pub records : OnOk answer (buf' ≡ holding buf.block (records_from record_of width count bytes))
    pub none : OnErr answer (buf' ≡ holding buf.block [])

  -- a write of a buffer, which stays as it was
  pub record IsWrittenFrom {T E : Type 0} (bytes_of : R → List ℕ) (record_of : List ℕ → R) (width : ℕ) (answer : Result T E) (slot slot' : Shown) (buf buf' : Block R) : Type 0 where
    pub wrote : IsWritten answer (padded bytes_of width buf.block buf.items) slot slot'
    -- where the slot tells, its bytes stand for the buffer's records now
    pub back : OnOk answer (Tells slot → records_told record_of width (length buf.items) slot'.told ≡ buf.items)
    pub same : buf' ≡ buf

  -- what running a job of this kind does to its slot and its buffer
  abbrev pub Does : {T E : Type 0} → (R → List ℕ) → (List ℕ → R) → ℕ → JobKind → Result T E → Shown → Shown → Block R → Block R → Type 0
  Does bytes_of record_of width Write answer slot slot' buf buf' = IsWrittenFrom bytes_of record_of width answer slot slot' buf buf'
  Does bytes_of record_of width (Read count) answer slot slot' buf buf' = IsReadInto record_of width count answer slot slot' buf buf'

module _ {S R : Type 0} where
  -- the buffer has as many bytes as the slot, and suits what is asked
  pub record MayRun (width : ℕ) (shown : S → Shown) (job : Job S R) : Type 0 where
    pub size : job.buf.block * width ≡ (shown job.slot).size
    pub kind : FitsKind job.kind job.buf

  -- the job was done: its slot was called once, as it asks, and it has the answer
  pub record IsDone (bytes_of : R → List ℕ) (record_of : List ℕ → R) (width : ℕ) (shown : S → Shown) (before now : Job S R) : Type 0 where
    pub answer : Result (Unit {0}) Failed
    pub done : now.done ≡ Some answer
    pub kind : now.kind ≡ before.kind
    pub does : Does bytes_of record_of width before.kind answer (shown before.slot) (shown now.slot) before.buf now.buf
