-- What a sweep does to its queues, and why one of them refused a call.
use Rattle.std.specs.Prelude.{◌≡◌, ◌⊎◌, ℕ, ◌+◌, ◌<◌, ◌≤◌, max, None, Result, Ok, Err}
use Rattle.ppq_queue.specs.ppq_heap.ppq_record.declared.pair.Pair.{Pair}
use Rattle.ppq_queue.specs.Sizes.{room_of}
use Rattle.ppq_queue.specs.Shown.{AllTell}
use Rattle.ppq_queue.specs.Kept.{AreQuiet}
use Rattle.ppq_queue.specs.Holding.{Holding, Keeps, IsAbove, HasStopped}
use Rattle.ppq_queue.specs.ppq_array.declared.store_fault.StoreFault.{StoreFault as QueueFault}
use Rattle.ppq_queue.specs.ppq_array.declared.store_fault.StoreFault.TheVariants.{NoFreeBlock, Device}
use Rattle.ppq_sweep.specs.Levels.{AreEdges}
use Rattle.ppq_sweep.specs.declared.fault.SweepFault.{SweepFault}
use Rattle.ppq_sweep.specs.declared.fault.SweepFault.TheVariants.{Write, Queue}

-- the queue's contents are visible, and its records are edges between so many nodes
pub record HoldsEdges (nodes : ℕ) (q : Holding Pair) : Type 0 where
  pub tell : AllTell q.slots
  pub edges : AreEdges nodes q.bag

-- no block has failed
pub record IsSound (old new : Holding Pair) : Type 0 where
  pub sound : new.failed ≡ None
  pub quiet : AreQuiet old.slots new.slots

-- no call of a block failed, but none was free: the device has fewer blocks than are enough for the peak, which is above what one heap
-- holds unless a limit session was begun
pub record LacksBlocks (old new : Holding Pair) : Type 0 where
  pub quiet : AreQuiet old.slots new.slots
  pub room : new.sizes.blocks < room_of new.sizes new.peak
  pub above : IsAbove new.sizes new.peak new.limited

-- what stands after a refusal of a queue
abbrev pub Refuses : Holding Pair → Holding Pair → QueueFault → Type 0
Refuses old new NoFreeBlock = LacksBlocks old new
Refuses old new (Device number) = HasStopped number new

-- one of two queues refused a call, and no call of a block of the other failed
abbrev pub OneRefuses : (edges edges' notes notes' : Holding Pair) → QueueFault → Type 0
OneRefuses edges edges' notes notes' fault = (Refuses edges edges' fault × AreQuiet notes.slots notes'.slots) ⊎ (AreQuiet edges.slots edges'.slots × Refuses notes notes' fault)

-- no call of a block failed, or one stopped the queue
abbrev pub MayHaveStopped : Holding Pair → Holding Pair → Type 0
MayHaveStopped old new = AreQuiet old.slots new.slots ⊎ ((number : ℕ) × HasStopped number new)

-- what stands of both queues after a step of a sweep: a call of a block failed only if that stopped it, or the sink too
abbrev pub QueuesAfter : {T : Type 0} → (edges edges' notes notes' : Holding Pair) → Result T SweepFault → Type 0
QueuesAfter edges edges' notes notes' (Ok value) = AreQuiet edges.slots edges'.slots × AreQuiet notes.slots notes'.slots
QueuesAfter edges edges' notes notes' (Err Write) = MayHaveStopped edges edges' × MayHaveStopped notes notes'
QueuesAfter edges edges' notes notes' (Err (Queue fault)) = OneRefuses edges edges' notes notes' fault

-- records were taken at most: no more are counted, and the peak stays
pub record TakesOnly (old new : Holding Pair) : Type 0 where
  pub keeps : Keeps old new
  pub size : new.size ≤ old.size
  pub peak : new.peak ≡ old.peak

-- Records were taken at most, or went from edges to notes, one for one: both queues count no more than before, and so many the notes never were
pub record MovesOn (edges edges' notes notes' : Holding Pair) : Type 0 where
  pub edges_keep : Keeps edges edges'
  pub notes_keep : Keeps notes notes'
  pub sizes : edges'.size + notes'.size ≤ edges.size + notes.size
  pub edges_peak : edges'.peak ≡ edges.peak
  pub notes_peak : notes'.peak ≤ max notes.peak (edges.size + notes.size)
