-- Sessions in which a queue gets many records, by a pass for each worker.
use Rattle.std.specs.Prelude.{◌≡◌, ◌≤◌, ◌+◌, ◌*◌, ◌/◌, Bool, ℕ, List, [], length, drop, max, Option, Some, None, Result, Ok, Err, OnOk, IfErr, ⊤}
use Rattle.ppq_session.specs.ppq_record.Given.{records_from}
use Rattle.ppq_session.specs.ppq_outside.Shown.{Shown}
use Rattle.ppq_session.specs.ppq_outside.Told.{Reply, Rose, bytes_or_none}
use Rattle.ppq_session.specs.ppq_budget.Sizes.{Numbers}
use Rattle.ppq_session.specs.ppq_array.Kept.{AreQuiet}
use Rattle.ppq_session.specs.ppq_queue.Holding.{Holding, FoundNoBlock, HasStopped, MetFault}
use Rattle.ppq_session.specs.ppq_array.declared.store_fault.StoreFault.{StoreFault as QueueFault}
use Rattle.ppq_session.specs.BulkSession.{IsIntact}
use Rattle.ppq_session.specs.declared.fault.BeginFault.{BeginFault}
use Rattle.ppq_session.specs.declared.fault.BeginFault.TheVariants as begin
use Rattle.ppq_session.specs.ppq_array.declared.store_fault.StoreFault.TheVariants as queue_fault
pub use Rattle.ppq_session.specs.Sessions.{SessionHolding, InSession, IsLoaded, IsLeftBy}
use Rattle.ppq_load.specs.Refusal.{IsRefusedBy}
use Rattle.ppq_load.specs.declared.fault.LoadFault.{LoadFault}
use Rattle.ppq_load.specs.declared.fault.LoadFault.TheVariants.{Queue, Read, Memory, Ended}
use Rattle.ppq_files.specs.declared.fault.FileFault.{FileFault}
use Rattle.ppq_files.specs.declared.fault.FileFault.TheVariants as file
use Rattle.ppq_files.specs.Filling.{HasEndedEarly}

-- the bytes of a file as far as the library tells, and none of one that does not tell
abbrev pub told_bytes : Option (List ℕ → Option (List ℕ)) → List ℕ → List ℕ
told_bytes None name = []
told_bytes (Some files) name = bytes_or_none (files name)

-- these are the records of a file from a place on, of so many records each; where the library does not tell, it is only known how many
pub record AreRecordsAt {R : Type 0} (record_of : List ℕ → R) (width : ℕ) (told : Option (List ℕ → Option (List ℕ))) (name : List ℕ) (from count : ℕ) (records : List R) : Type 0 where
  pub length : length records ≡ count
  pub are : (files : List ℕ → Option (List ℕ)) → told ≡ Some files → records ≡ records_from record_of width count (drop (from * width) (bytes_or_none (files name)))

-- the first so many records of a file were given to the passes of a session
pub record HasGiven {S R : Type 0} (record_of : List ℕ → R) (width : ℕ) (shown : S → Shown) (queue : Holding R) (told : Option (List ℕ → Option (List ℕ))) (name : List ℕ) (count : ℕ) (load : SessionHolding S R) : Type 0 where
  pub records : List R
  pub are : AreRecordsAt record_of width told name 0 count records
  pub session : InSession shown queue records load

-- some of the first records of a file were given to the passes of a session, and no more than so many
pub record HasGivenSome {S R : Type 0} (record_of : List ℕ → R) (width : ℕ) (shown : S → Shown) (queue : Holding R) (told : Option (List ℕ → Option (List ℕ))) (name : List ℕ) (most : ℕ) (load : SessionHolding S R) : Type 0 where
  pub count : ℕ
  pub few : count ≤ most
  pub given : HasGiven record_of width shown queue told name count load

-- why a session did not begin, as a fault of a load
abbrev pub begin_fault_of : BeginFault → LoadFault
begin_fault_of begin.Memory = Memory
begin_fault_of begin.NoFreeBlock = Queue queue_fault.NoFreeBlock
begin_fault_of (begin.Device number) = Queue (queue_fault.Device number)

-- why a piece of a file was not read, as a fault of a load
abbrev pub read_fault_of : FileFault → LoadFault
read_fault_of file.Failed = Read
read_fault_of file.Memory = Memory
read_fault_of (file.Ended got) = Ended got

-- how a session ended, as a result of a load
abbrev pub loaded_of : {T : Type 0} → Result T QueueFault → Result T LoadFault
loaded_of (Ok value) = Ok value
loaded_of (Err fault) = Err (Queue fault)

-- a fault of reading stays the fault, whatever the end of the session says
abbrev pub first_of : {A B : Type 0} → Result A LoadFault → Result B QueueFault → Result B LoadFault
first_of (Ok value) ended = loaded_of ended
first_of (Err fault) ended = Err fault

-- where it was the queue, it says why
abbrev pub LoadStopsFor : ℕ → Numbers → Bool → List Shown → LoadFault → Type 0
LoadStopsFor peak sizes limited slots (Queue fault) = IsRefusedBy peak sizes limited slots fault
LoadStopsFor peak sizes limited slots Read = ⊤
LoadStopsFor peak sizes limited slots Memory = ⊤
LoadStopsFor peak sizes limited slots (Ended got) = ⊤

-- it was the queue, or memory was wanting
abbrev pub IsByLoad : LoadFault → Type 0
IsByLoad (Queue fault) = ⊤
IsByLoad Read = ⊥
IsByLoad Memory = ⊤
IsByLoad (Ended got) = ⊥

-- it was the reading of a file
abbrev pub IsByRead : LoadFault → Type 0
IsByRead (Queue fault) = ⊥
IsByRead Read = ⊤
IsByRead Memory = ⊤
IsByRead (Ended got) = ⊤

-- a session did not begin: the queue has the records that it had, unless a block failed, and none failed where no block was free
abbrev pub IsHandedBack : {R : Type 0} → Holding R → Holding R → LoadFault → Type 0
IsHandedBack old new (Queue queue_fault.NoFreeBlock) = FoundNoBlock old new
IsHandedBack old new (Queue (queue_fault.Device number)) = MetFault number old new
IsHandedBack old new Read = ⊥
IsHandedBack old new Memory = IsIntact old new
IsHandedBack old new (Ended got) = ⊥

-- No block was free for a load of so many records: the queue counts no record less, and no more of them than these; its peak is what it was, or
-- how many it counts now; and no call of a block failed, now or before
pub record FoundNoRoom {R : Type 0} (old new : Holding R) (count : ℕ) : Type 0 where
  pub least : old.size ≤ new.size
  pub most : new.size ≤ old.size + count
  pub peak : new.peak ≡ max old.peak new.size
  pub sound : new.failed ≡ None
  pub quiet : AreQuiet old.slots new.slots

-- What a refused load of so many records left of the queue, which counts no more of them than these. Where the load names a failed block, this
-- block stopped the queue
abbrev pub LoadLeaves : {R : Type 0} → Holding R → Holding R → ℕ → LoadFault → Type 0
LoadLeaves old new count (Queue queue_fault.NoFreeBlock) = FoundNoRoom old new count
LoadLeaves old new count (Queue (queue_fault.Device number)) = HasStopped number new × (new.size ≤ old.size + count)
LoadLeaves old new count Read = new.size ≤ old.size + count
LoadLeaves old new count Memory = new.size ≤ old.size + count
LoadLeaves old new count (Ended got) = new.size ≤ old.size + count

-- the library's count rose where a read failed, and else stayed
abbrev pub LoadCountsFrom : ℕ → ℕ → LoadFault → Type 0
LoadCountsFrom before now (Queue fault) = now ≡ before
LoadCountsFrom before now Read = Rose before now
LoadCountsFrom before now Memory = now ≡ before
LoadCountsFrom before now (Ended got) = now ≡ before

-- where a file ended, it says so of it
abbrev pub LoadEndsIn : Option (List ℕ → Option (List ℕ)) → (Reply → Type 0) → List ℕ → ℕ → LoadFault → Type 0
LoadEndsIn told replied name said (Queue fault) = ⊤
LoadEndsIn told replied name said Read = ⊤
LoadEndsIn told replied name said Memory = ⊤
LoadEndsIn told replied name said (Ended got) = HasEndedEarly told replied name said got

-- it was the reading of the file, and it says where the file ended early
pub record IsReadRefusal (told : Option (List ℕ → Option (List ℕ))) (replied : Reply → Type 0) (name : List ℕ) (said : ℕ) (fault : LoadFault) : Type 0 where
  pub by_file : IsByRead fault
  pub ended : LoadEndsIn told replied name said fault

-- A file was read and dealt to the passes of a session that has just begun: all its records where the result is Ok, or where a pass stopped; and
-- else some of its first ones, and reading says why
pub record DealsFile
    {S R T : Type 0} (record_of : List ℕ → R) (width : ℕ) (shown : S → Shown) (told : Option (List ℕ → Option (List ℕ))) (replied : Reply → Type 0) (name : List ℕ) (said : ℕ)
    (old new : SessionHolding S R) (result : Result T LoadFault) : Type 0 where
  pub given : OnOk result ((queue : Holding R) → InSession shown queue [] old → HasGiven record_of width shown queue told name (said / width) new)
  pub some : (queue : Holding R) → InSession shown queue [] old → HasGivenSome record_of width shown queue told name (said / width) new
  pub refused : IfErr result (IsReadRefusal told replied name said)
