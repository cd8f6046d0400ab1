-- An open session of either kind, to whose passes records were given, and what a queue has at its end.
use Rattle.std.specs.Prelude.{◌≡◌, ◌<◌, ◌≤◌, ◌+◌, ℕ, List, ◌++◌, length, sum_by, max, All, Any, Result, OnOk, IfErr, IsErrOf, None}
use Rattle.ppq_pass.specs.ppq_record.Bag.{IsSameBag}
use Rattle.ppq_pass.specs.ppq_outside.Shown.{Shown, AllTell}
use Rattle.ppq_pass.specs.ppq_array.Kept.{SameSlots, AreQuiet, all_writes}
use Rattle.ppq_pass.specs.Passed.{PassHolding, PassTells}
use Rattle.ppq_pass.specs.ppq_counts.Tally.{beginning}
use Rattle.ppq_queue.specs.Holding.{Holding, CountsFew}
use Rattle.ppq_pass.specs.ppq_array.declared.store_fault.StoreFault.{StoreFault as QueueFault}
use Rattle.ppq_pass.specs.ppq_array.declared.store_fault.StoreFault.TheVariants.{NoFreeBlock}
use Rattle.ppq_session.specs.Ends.{Staying, accepted_of}
use Rattle.ppq_session.specs.Dealing.{IsGoing, HasNoFault, HasEnded, StaysBacked, AddsPart}
use Rattle.ppq_session.specs.Refusal.{Keeps, IsRefusedBy}

-- What an open session keeps of its queue, which is shown as it was when the session began
pub record KeepsQueue {S R : Type 0} (shown : S → Shown) (queue : Holding R) (stay : Staying R) (passes : List (PassHolding S R)) : Type 0 where
  pub sizes : stay.sizes ≡ queue.sizes
  pub limited : stay.limited ≡ queue.limited
  pub peak : stay.peak ≡ queue.peak
  pub total : stay.size + stay.popped ≡ queue.size
  pub slots : SameSlots queue.slots stay.slots
  pub tells : AllTell queue.slots → AllTell stay.slots × All (PassTells shown) passes
  pub writes : all_writes queue.slots ≤ all_writes stay.slots
  pub quiet : stay.failed ≡ None → AreQuiet queue.slots stay.slots

-- These records were given to passes, which makes of a first multiset what is held now: as long as none has stopped, all of them, and as long as
-- no call of a slot failed, a part
pub record WereGiven {S R : Type 0} (slots : List Shown) (records first held : List R) (passes : List (PassHolding S R)) : Type 0 where
  pub part : All HasNoFault passes → AllTell slots → AddsPart records first held
  pub bag : All IsGoing passes → AllTell slots → IsSameBag held (records ++ first)
  pub accepted : All IsGoing passes → accepted_of passes ≡ length records
  pub most : accepted_of passes ≤ length records
  pub fewer : Any HasEnded passes → accepted_of passes < length records

-- What an open session counts of its queue, which is shown as it was when the session began: the queue's numbers with this session. The passes had no
-- more records in the beginning than the heaps of the queue, and their stores of full heaps are backed by the records that they got and accepted
pub record CountsGiven {S R : Type 0} (queue : Holding R) (stay : Staying R) (passes : List (PassHolding S R)) : Type 0 where
  pub counts : stay.counts ≡ beginning queue.counts
  pub begun : sum_by (λ p. p.key.begun) passes ≤ queue.in_heap
  pub sizes : All (λ (p : PassHolding S R). p.key.sizes ≡ queue.sizes) passes
  pub backed : All StaysBacked passes

-- A session of a queue ended, in which these records were given, and so many were asked to be popped at the most. Where the result is Ok, the
-- queue has what was left of its own and all that was given, and no call of a slot failed; else there is no room for what was given, and the
-- queue has what was left and a part of it, or a block failed. Before the session began, the queue was shown as the first one
pub record IsFinished {T R : Type 0} (before queue : Holding R) (given left : List R) (popped : ℕ) (new : Holding R) (result : Result T QueueFault) : Type 0 where
  pub kept : Keeps queue new
  pub bag : OnOk result (AllTell queue.slots → IsSameBag new.bag (given ++ left))
  pub low : OnOk result (queue.size + length given ≤ new.size + popped)
  pub least : OnOk result (length given ≤ new.size)
  pub high : OnOk result (new.size ≤ queue.size + length given)
  pub sound : OnOk result (new.failed ≡ None)
  pub quiet : OnOk result (AreQuiet queue.slots new.slots)
  pub part : IsErrOf result NoFreeBlock → AllTell queue.slots → AddsPart given left new.bag
  pub peak : OnOk result (new.peak ≡ max queue.peak (queue.size + length given))
  pub refused : IfErr result (IsRefusedBy (max queue.peak (queue.size + length given)) queue.sizes queue.limited new.slots)
  pub counted : CountsFew (length given) 1 before new result
