-- An open bulk session, and what stays of a queue whose session did not begin or ended.
use Rattle.std.specs.Prelude.{◌≡◌, ◌+◌, List, ◌++◌, length, max, Result, OnOk, IfErr, IsErrOf, None}
use Rattle.ppq_pass.specs.ppq_record.Bag.{IsSameBag}
use Rattle.ppq_pass.specs.ppq_outside.Shown.{Shown, AllTell}
use Rattle.ppq_pass.specs.ppq_array.Kept.{AreQuiet}
use Rattle.ppq_pass.specs.Passed.{PassHolding}
use Rattle.ppq_pass.specs.ppq_counts.Tally.{beginning}
use Rattle.ppq_queue.specs.Holding.{Holding, CountsAs, CountsFew}
use Rattle.ppq_pass.specs.ppq_array.declared.store_fault.StoreFault.{StoreFault as QueueFault}
use Rattle.ppq_pass.specs.ppq_array.declared.store_fault.StoreFault.TheVariants.{NoFreeBlock, Device}
use Rattle.ppq_session.specs.BulkSession.{BulkHolding, IsBeginRefusal, IsTogether, of_bulk, bag_of}
use Rattle.ppq_session.specs.Dealing.{AddsPart}
use Rattle.ppq_session.specs.Ends.{HasLost}
use Rattle.ppq_session.specs.Given.{KeepsQueue, WereGiven, CountsGiven}
use Rattle.ppq_session.specs.Refusal.{Keeps, IsRefusedBy}
use Rattle.ppq_session.specs.declared.fault.BeginFault.{BeginFault}

-- What contracts see of an open session: what its owner keeps, and the passes, in the order of their workers
pub record SessionHolding (S R : Type 0) : Type 0 where
  pub bulk : BulkHolding S R
  pub passes : List (PassHolding S R)

-- A session of a queue, which is shown as it was when the session began. These records were given to its passes: as long as none has
-- stopped, they have all of them, and as long as no call of a slot failed, a part
pub record InSession {S R : Type 0} (shown : S → Shown) (queue : Holding R) (records : List R) (session : SessionHolding S R) : Type 0 where
  pub keeps : KeepsQueue shown queue (of_bulk session.bulk) session.passes
  pub given : WereGiven queue.slots records queue.bag (session.bulk.bag ++ bag_of session.passes) session.passes
  pub counted : CountsGiven queue (of_bulk session.bulk) session.passes

-- A session of a queue ended, to whose passes these records were given. Where the result is Ok, the queue has them all, and no call of a
-- slot failed; else there is no room for them, and the queue has a part of them, or a block failed. The session is counted, and no more records
-- than these
pub record IsLoaded {T R : Type 0} (queue : Holding R) (records : List R) (new : Holding R) (result : Result T QueueFault) : Type 0 where
  pub kept : Keeps queue new
  pub bag : OnOk result (AllTell queue.slots → IsSameBag new.bag (records ++ queue.bag))
  pub size : OnOk result (new.size ≡ queue.size + length records)
  pub sound : OnOk result (new.failed ≡ None)
  pub quiet : OnOk result (AreQuiet queue.slots new.slots)
  pub part : IsErrOf result NoFreeBlock → AllTell queue.slots → AddsPart records queue.bag new.bag
  pub peak : OnOk result (new.peak ≡ max queue.peak (queue.size + length records))
  pub refused : IfErr result (IsRefusedBy (max queue.peak (queue.size + length records)) queue.sizes queue.limited new.slots)
  pub counted : CountsFew (length records) 1 queue new result

-- A session of a queue did not begin, and left this one. It keeps what a queue keeps in which a limit session was begun, if it was one; and it
-- counts the session all the same
pub record IsUnbegun {R : Type 0} (old begun new : Holding R) (fault : BeginFault) : Type 0 where
  pub why : IsBeginRefusal old new fault
  pub kept : Keeps begun new
  pub peak : new.peak ≡ old.peak
  pub counted : CountsAs (beginning old.counts) old new

-- a session ended with a fault: the queue has all records of the session, or a block failed, and the queue counts them
abbrev pub IsLeftBy : {S R : Type 0} → (S → Shown) → SessionHolding S R → Holding R → QueueFault → Type 0
IsLeftBy shown session new NoFreeBlock = IsTogether shown session.bulk session.passes new
IsLeftBy shown session new (Device number) = HasLost (of_bulk session.bulk) session.passes number new
