-- What the queue of a simulation goes through: events are taken, and events are added.
use Rattle.std.specs.Prelude.{◌≡◌, ◌⊎◌, ℕ, ◌+◌, ◌-◌, ◌<◌, ◌≤◌, ◌++◌, List, length, drop, max, Some, None, Result, Ok, Err}
use Rattle.std.specs.List.{AllByRecursion as Each}
use Rattle.ppq_handler.specs.ppq_record.declared.triple.Triple.{Triple}
use Rattle.ppq_handler.specs.ppq_record.Triple.{triple_cmp}
use Rattle.ppq_handler.specs.ppq_record.Bag.{IsSameBag, least}
use Rattle.ppq_handler.specs.Agenda.{in_turn}
use Rattle.ppq_queue.specs.Sizes.{room_of}
use Rattle.ppq_queue.specs.Shown.{AllTell}
use Rattle.ppq_queue.specs.Kept.{AreQuiet}
use Rattle.ppq_queue.specs.Holding.{Holding, Keeps, IsAbove, HasStopped}
use Rattle.ppq_queue.specs.ppq_array.declared.store_fault.StoreFault.{StoreFault as QueueFault}
use Rattle.ppq_queue.specs.ppq_array.declared.store_fault.StoreFault.TheVariants.{NoFreeBlock, Device}
use Rattle.ppq_event.specs.declared.fault.SimFault.{SimFault}
use Rattle.ppq_event.specs.declared.fault.SimFault.TheVariants.{Write, Queue}

-- no block has failed
pub record IsSound (old new : Holding Triple) : Type 0 where
  pub sound : new.failed ≡ None
  pub quiet : AreQuiet old.slots new.slots

-- no block was free: the device has fewer blocks than are enough for the peak, which is above what one heap holds unless a limit session was begun
pub record LacksBlocks (old new : Holding Triple) : Type 0 where
  pub sound : IsSound old new
  pub room : new.sizes.blocks < room_of new.sizes new.peak
  pub above : IsAbove new.sizes new.peak new.limited

-- what stands after a refusal
abbrev pub Refuses : Holding Triple → Holding Triple → QueueFault → Type 0
Refuses old new NoFreeBlock = LacksBlocks old new
Refuses old new (Device number) = HasStopped number new

-- no block has failed, or one stopped the queue
abbrev pub MayHaveStopped : Holding Triple → Holding Triple → Type 0
MayHaveStopped old new = IsSound old new ⊎ ((number : ℕ) × HasStopped number new)

-- what stands after a step of a simulation: a call of a block failed only if that stopped it, or the sink too
abbrev pub QueueAfter : {T : Type 0} → Holding Triple → Holding Triple → Result T SimFault → Type 0
QueueAfter old new (Ok value) = IsSound old new
QueueAfter old new (Err Write) = MayHaveStopped old new
QueueAfter old new (Err (Queue fault)) = Refuses old new fault

-- these events were added, and there were never more than there are now, or than there had been
pub record HasGrown (old new : Holding Triple) (events : List Triple) : Type 0 where
  pub bag : AllTell old.slots → IsSameBag new.bag (old.bag ++ events)
  pub size : new.size ≡ old.size + length events
  pub peak : new.peak ≤ max old.peak new.size
  pub sound : IsSound old new
  pub keeps : Keeps old new

-- a call was refused, when there were to be no more than so many events, or than there had been
pub record HasRefused (old new : Holding Triple) (most : ℕ) (fault : QueueFault) : Type 0 where
  pub refuses : Refuses old new fault
  pub peak : new.peak ≤ max old.peak most
  pub keeps : Keeps old new

-- the first events of the multiset were taken, all of this time if that is the time of the first one; then some were
pub record TookFirst (time : ℕ) (old new out : List Triple) : Type 0 where
  pub front : out ++ drop (length out) (in_turn old) ≡ in_turn old
  pub rest : IsSameBag new (drop (length out) (in_turn old))
  pub one_time : (e : Triple) → least triple_cmp old ≡ Some e → e.time ≡ time → Each (λ x. x.time ≡ time) out × (0 < length out)

-- the first events were taken, at most so many
pub record TakesRound (time most : ℕ) (old new : Holding Triple) (out : List Triple) : Type 0 where
  pub took : AllTell old.slots → TookFirst time old.bag new.bag out
  pub few : length out ≤ most
  pub within : length out ≤ old.size
  pub size : new.size ≡ old.size - length out
  pub peak : new.peak ≡ old.peak
  pub sound : IsSound old new
  pub keeps : Keeps old new
