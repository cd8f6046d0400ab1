-- Calls of the queues, one after the other: what they keep, and what a refusal means.
use Rattle.std.proofs.Common.{◌≡◌, ◌+◌, ◌<◌, ◌≤◌, refl, inl, inr, max, ◌∙◌, arith}
use Rattle.std.specs.Prelude.{Result, Ok, Err, OnOk, IfErr}
use Rattle.std.specs.declared.cmp.Ordering.{Ordering}
use Rattle.ppq_queue.specs.ppq_heap.ppq_record.declared.pair.Pair.{Pair}
use Rattle.ppq_queue.specs.Kept.{AreQuiet}
use Rattle.ppq_queue.specs.Holding.{Holding, Keeps, Stays, SameRecords, HasTaken, IsRefusal}
use Rattle.ppq_queue.specs.ppq_array.declared.store_fault.StoreFault.{StoreFault as QueueFault}
use Rattle.ppq_queue.specs.ppq_array.declared.store_fault.StoreFault.TheVariants.{NoFreeBlock, Device}
use Rattle.ppq_queue.proofs.Flushed.{keeps-slots, keeps-more}
use Rattle.ppq_sweep.specs.declared.fault.SweepFault.{SweepFault}
use Rattle.ppq_sweep.specs.declared.fault.SweepFault.TheVariants.{Write, Queue}
use Rattle.ppq_sweep.specs.Queues.{IsSound, Refuses, OneRefuses, MayHaveStopped, QueuesAfter, TakesOnly, MovesOn}

keeps_same : (q : Holding Pair) → Keeps q q
keeps_same q = keeps-slots q q refl refl refl

-- no call yet
pub takes_none : (q : Holding Pair) → TakesOnly q q
takes_none q = record { keeps = keeps_same q; size = omega arith; peak = refl }

pub moves_none : (edges notes : Holding Pair) → MovesOn edges edges notes notes
moves_none edges notes = record { edges_keep = keeps_same edges; notes_keep = keeps_same notes; sizes = omega arith; edges_peak = refl; notes_peak = omega arith }

-- a look at the smallest record takes none
pub takes_look : (old new : Holding Pair) → Stays old new → TakesOnly old new
takes_look old new h = record { keeps = h.keeps; size = omega (arith, h.size); peak = h.peak }

pub sound_look : (old new : Holding Pair) → SameRecords old new → IsSound old new
sound_look old new h = record { sound = h.sound; quiet = h.quiet }

-- what a refusal of the queue says
pub refuses_by : (old new : Holding Pair) (fault : QueueFault) → IsRefusal old new fault → Refuses old new fault
refuses_by old new NoFreeBlock h = record { quiet = h.quiet; room = h.room; above = h.above }
refuses_by old new (Device number) h = record { fault = h.fault; kept = h.kept }

-- after a refusal as many records are counted as before
pub refusal_size : (old new : Holding Pair) (fault : QueueFault) → IsRefusal old new fault → new.size ≡ old.size
refusal_size old new NoFreeBlock h = h.size
refusal_size old new (Device number) h = h.size

-- a call took the smallest record, or was refused
pub takes_pop :
    {T : Type 0} (cmp : Pair → Pair → Ordering) (old new : Holding Pair) (result : Result T QueueFault) → OnOk result (HasTaken cmp old new) → IfErr result (IsRefusal old new) → new.peak ≡ old.peak → Keeps old new
    → TakesOnly old new
takes_pop cmp old new (Ok value) taken refused peak keeps = record { keeps = keeps; size = omega (arith, taken.size); peak = peak }
takes_pop cmp old new (Err fault) taken refused peak keeps = record { keeps = keeps; size = omega (arith, refusal_size old new fault refused); peak = peak }

pub takes_more : (a b c : Holding Pair) → TakesOnly a b → TakesOnly b c → TakesOnly a c
takes_more a b c h k = record { keeps = keeps-more a b c h.keeps k.keeps; size = omega (arith, h.size, k.size); peak = k.peak ∙ h.peak }

pub moves_more : (a b c x y z : Holding Pair) → MovesOn a b x y → MovesOn b c y z → MovesOn a c x z
moves_more a b c x y z h k = record {
  edges_keep = keeps-more a b c h.edges_keep k.edges_keep;
  notes_keep = keeps-more x y z h.notes_keep k.notes_keep;
  sizes = omega (arith, h.sizes, k.sizes);
  edges_peak = k.edges_peak ∙ h.edges_peak;
  notes_peak = omega (arith, h.notes_peak, k.notes_peak, h.sizes);
}

-- records were taken of one of the queues
pub moves_edges : (edges edges' notes : Holding Pair) → TakesOnly edges edges' → MovesOn edges edges' notes notes
moves_edges edges edges' notes h = record { edges_keep = h.keeps; notes_keep = keeps_same notes; sizes = omega (arith, h.size); edges_peak = h.peak; notes_peak = omega arith }

pub moves_notes : (edges notes notes' : Holding Pair) → TakesOnly notes notes' → MovesOn edges edges notes notes'
moves_notes edges notes notes' h = record { edges_keep = keeps_same edges; notes_keep = h.keeps; sizes = omega (arith, h.size); edges_peak = refl; notes_peak = omega (arith, h.peak) }

-- an edge was taken, and a note pushed for it, or refused
pub moves_one :
    (edges edges' notes notes' : Holding Pair) → TakesOnly edges edges' → edges'.size < edges.size → Keeps notes notes' → notes'.size ≤ notes.size + 1 → notes'.peak ≡ max notes.peak (notes.size + 1)
    → MovesOn edges edges' notes notes'
moves_one edges edges' notes notes' h fewer keeps size peak = record { edges_keep = h.keeps; notes_keep = keeps; sizes = omega (arith, fewer, size); edges_peak = h.peak; notes_peak = omega (arith, fewer, peak) }

-- a refusal after calls of which none failed
pub refuses_since : (a b c : Holding Pair) (fault : QueueFault) → AreQuiet a.slots b.slots → Refuses b c fault → Refuses a c fault
refuses_since a b c NoFreeBlock quiet h = record { quiet = h.quiet ∙ quiet; room = h.room; above = h.above }
refuses_since a b c (Device number) quiet h = h

pub one_since : (a b c x y z : Holding Pair) (fault : QueueFault) → AreQuiet a.slots b.slots → AreQuiet x.slots y.slots → OneRefuses b c y z fault → OneRefuses a c x z fault
one_since a b c x y z fault one other (inl h) = inl (refuses_since a b c fault one h.0, h.1 ∙ other)
one_since a b c x y z fault one other (inr h) = inr (h.0 ∙ one, refuses_since x y z fault other h.1)

-- a queue that refused a call may have been stopped
stopped_by : (old new : Holding Pair) (fault : QueueFault) → Refuses old new fault → MayHaveStopped old new
stopped_by old new NoFreeBlock h = inl h.quiet
stopped_by old new (Device number) h = inr (number, h)

may_since : (a b c : Holding Pair) → AreQuiet a.slots b.slots → MayHaveStopped b c → MayHaveStopped a c
may_since a b c quiet (inl h) = inl (h ∙ quiet)
may_since a b c quiet (inr h) = inr h

-- what stands of both queues, after calls of which none failed
pub queues_since :
    {T : Type 0} (a b c x y z : Holding Pair) (result : Result T SweepFault) → AreQuiet a.slots b.slots → AreQuiet x.slots y.slots → QueuesAfter b c y z result → QueuesAfter a c x z result
queues_since a b c x y z (Ok value) one other h = (h.0 ∙ one, h.1 ∙ other)
queues_since a b c x y z (Err Write) one other h = (may_since a b c one h.0, may_since x y z other h.1)
queues_since a b c x y z (Err (Queue fault)) one other h = one_since a b c x y z fault one other h

-- and if the sink failed then
pub queues_unwritten : {T : Type 0} (edges edges' notes notes' : Holding Pair) (result : Result T SweepFault) → QueuesAfter edges edges' notes notes' result → MayHaveStopped edges edges' × MayHaveStopped notes notes'
queues_unwritten edges edges' notes notes' (Ok value) h = (inl h.0, inl h.1)
queues_unwritten edges edges' notes notes' (Err Write) h = h
queues_unwritten edges edges' notes notes' (Err (Queue fault)) (inl h) = (stopped_by edges edges' fault h.0, inl h.1)
queues_unwritten edges edges' notes notes' (Err (Queue fault)) (inr h) = (inl h.0, stopped_by notes notes' fault h.1)
