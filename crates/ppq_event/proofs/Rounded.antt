-- Rounds, one after the other.
use Rattle.std.proofs.Common.{◌≡◌, ◌∙◌, ℕ, inl, inr, subst}
use Rattle.std.specs.Prelude.{Result, Ok, Err}
use Rattle.ppq_handler.specs.ppq_record.declared.triple.Triple.{Triple}
use Rattle.ppq_queue.specs.Holding.{Holding}
use Rattle.ppq_queue.specs.Kept.{AreQuiet}
use Rattle.ppq_queue.specs.ppq_array.declared.store_fault.StoreFault.TheVariants.{NoFreeBlock, Device}
use Rattle.ppq_event.specs.declared.fault.SimFault.{SimFault}
use Rattle.ppq_event.specs.declared.fault.SimFault.TheVariants.{Write, Queue}
use Rattle.ppq_handler.specs.ppq_outside.Told.{Rose}
use Rattle.ppq_event.specs.Going.{SinkAfter}
use Rattle.ppq_event.specs.Waiting.{IsSound, QueueAfter}

-- no call of a block failed since
abbrev pub MayStart : Holding Triple → Holding Triple → Type 0
MayStart old new = AreQuiet old.slots new.slots

sound_since : (a b c : Holding Triple) → MayStart a b → IsSound b c → IsSound a c
sound_since a b c h k = record { sound = k.sound; quiet = k.quiet ∙ h }

-- what stands after one round more
pub queue_since : {T : Type 0} (a b c : Holding Triple) (r : Result T SimFault) → MayStart a b → QueueAfter b c r → QueueAfter a c r
queue_since a b c (Ok v) h k = sound_since a b c h k
queue_since a b c (Err Write) h (inl k) = inl (sound_since a b c h k)
queue_since a b c (Err Write) h (inr k) = inr k
queue_since a b c (Err (Queue NoFreeBlock)) h k = record { sound = sound_since a b c h k.sound; room = k.room; above = k.above }
queue_since a b c (Err (Queue (Device number))) h k = k

pub sink_since : {T : Type 0} (a b c : ℕ) (r : Result T SimFault) → b ≡ a → SinkAfter b c r → SinkAfter a c r
sink_since a b c (Ok v) h k = k ∙ h
sink_since a b c (Err Write) h k = subst (λ n. Rose n c) h k
sink_since a b c (Err (Queue fault)) h k = k ∙ h
