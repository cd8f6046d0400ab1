-- An open limit session, whose lines come in batches, and what the queue has at its end.
use Rattle.std.specs.Prelude.{◌≡◌, ◌⊎◌, ◌≤◌, ℕ, List, [], All, Some, None, Result}
use Rattle.std.specs.List.{Any}
use Rattle.ppq_pass.specs.ppq_record.Bag.{IsSameBag}
use Rattle.ppq_pass.specs.ppq_outside.Shown.{Shown, AllTell}
use Rattle.ppq_queue.specs.Holding.{Holding, limit_begun}
use Rattle.ppq_pass.specs.ppq_array.declared.store_fault.StoreFault.{StoreFault as QueueFault}
use Rattle.ppq_pass.specs.ppq_array.declared.store_fault.StoreFault.TheVariants.{NoFreeBlock, Device}
use Rattle.ppq_session.specs.Dealing.{IsGoing, HasEnded}
use Rattle.ppq_session.specs.Fronts.{FrontHolding}
use Rattle.ppq_session.specs.Given.{KeepsQueue, WereGiven, CountsGiven, IsFinished}
use Rattle.ppq_session.specs.Limited.{LimitHolding, passes_of}
use Rattle.ppq_session.specs.LimitSession.{limited_bag, of_front, IsTogether}
use Rattle.ppq_session.specs.Ends.{HasLost}

-- What contracts see of an open limit session: what its owner keeps, and the passes, in the order of their workers
pub record LimitSessionHolding (S R : Type 0) : Type 0 where
  pub front : FrontHolding S R
  pub passes : List (LimitHolding S R)

-- a queue in which a limit session was begun, which is counted
abbrev pub begun_in : {R : Type 0} → Holding R → Holding R
begun_in queue = limit_begun queue

-- no push of any pass was refused, and no call of a slot of the front failed
pub record AreGoing {S R : Type 0} (session : LimitSessionHolding S R) : Type 0 where
  pub passes : All IsGoing (passes_of session.passes)
  pub front : session.front.failed ≡ None

-- a push of a pass was refused, or a call of a slot of the front failed
abbrev pub HasStopped : {S R : Type 0} → LimitSessionHolding S R → Type 0
HasStopped session = Any HasEnded (passes_of session.passes) ⊎ ((number : ℕ) × (session.front.failed ≡ Some number))

-- A limit session of a queue, which is shown as it was when the session began. These records were given to its passes, and so many were
-- asked to be popped at the most; unless a call of a slot of the front failed, these are left of what the queue had. As long as no pass has
-- stopped, they have all that they were given
pub record InLimits {S R : Type 0} (shown : S → Shown) (queue : Holding R) (limit : R) (given left : List R) (popped : ℕ) (session : LimitSessionHolding S R) : Type 0 where
  pub keeps : KeepsQueue shown (begun_in queue) (of_front session.front) (passes_of session.passes)
  pub limit_is : session.front.limit ≡ limit
  pub popped_is : session.front.popped ≤ popped
  pub rest : session.front.failed ≡ None → AllTell queue.slots → IsSameBag session.front.bag left
  pub given_are : WereGiven queue.slots given [] (limited_bag session.passes) (passes_of session.passes)
  pub counted : CountsGiven queue (of_front session.front) (passes_of session.passes)

-- a limit session ended with a fault: the queue has all records of its front and its passes, or a block failed, and the queue counts them
abbrev pub IsOverBy : {S R : Type 0} → (S → Shown) → LimitSessionHolding S R → Holding R → QueueFault → Type 0
IsOverBy shown session new NoFreeBlock = IsTogether shown session.front session.passes new
IsOverBy shown session new (Device number) = HasLost (of_front session.front) (passes_of session.passes) number new

-- a limit session of a queue ended
abbrev pub IsOver : {T R : Type 0} → Holding R → List R → List R → ℕ → Holding R → Result T QueueFault → Type 0
IsOver queue given left popped new result = IsFinished queue (begun_in queue) given left popped new result
