-- What a simulation leaves.
use Rattle.std.specs.Prelude.{◌≡◌, ◌⊎◌, ℕ, ◌≤◌, List, ◌++◌, flat_map, take, Option, Result, Ok, Err, IfOk, IfErr, ⊤}
use Rattle.ppq_handler.specs.ppq_record.declared.triple.Triple.{Triple}
use Rattle.ppq_handler.specs.ppq_outside.Told.{TakesAll, TakesPart, Rose}
use Rattle.ppq_handler.specs.declared.ending.Ending.{Ending}
use Rattle.ppq_handler.specs.Roster.{Place}
use Rattle.ppq_handler.specs.Agenda.{entry_text, ending_text, Run, journal}
use Rattle.ppq_queue.specs.Holding.{Holding}
use Rattle.ppq_event.specs.declared.fault.SimFault.{SimFault}
use Rattle.ppq_event.specs.declared.fault.SimFault.TheVariants.{Write, Queue}
use Rattle.ppq_event.specs.Waiting.{QueueAfter}
use Rattle.ppq_event.specs.Going.{greatest, SinkAfter}

-- a run was made: its journal was written, it ended so, and its places are left
pub record Simulates (whole : Run) (places' : List Place) (told told' : Option (List ℕ)) (ending : Ending) : Type 0 where
  pub wrote : TakesAll told told' (journal whole)
  pub ends : ending ≡ whole.ending
  pub leaves : places' ≡ whole.places

-- The lines of a run's first turns were written, each of them whole; and of the peaks before and after the latter is no more than the greatest of
-- the former and of what was waiting after each of these turns
pub record WroteLines (whole : Run) (was now : ℕ) (told told' : Option (List ℕ)) : Type 0 where
  pub turns : ℕ
  pub wrote : TakesAll told told' (flat_map entry_text (take turns whole.entries))
  pub peak : now ≤ greatest was (take turns whole.waiting)

-- where the queue stopped a run, whole lines were written
abbrev pub StopsByQueue : Run → ℕ → ℕ → Option (List ℕ) → Option (List ℕ) → SimFault → Type 0
StopsByQueue whole was now told told' Write = ⊤
StopsByQueue whole was now told told' (Queue fault) = WroteLines whole was now told told'

-- a text was written and what there was to answer is returned; or the sink failed and took a part of the text
abbrev pub WritesText : {T : Type 0} → Option (List ℕ) → Option (List ℕ) → ℕ → ℕ → List ℕ → Result T SimFault → Result T SimFault → Type 0
WritesText told told' faults faults' text answer result = ((result ≡ answer) × TakesAll told told' text × (faults' ≡ faults)) ⊎ ((result ≡ Err Write) × TakesPart told told' text × Rose faults faults')

-- what was gathered was written at the end of a run, and the line of its ending; nothing where the sink had failed
abbrev pub FinishesBy : Option (List ℕ) → Option (List ℕ) → ℕ → ℕ → List ℕ → Result Ending SimFault → Result Ending SimFault → Type 0
FinishesBy told told' faults faults' had (Ok ending) result = WritesText told told' faults faults' (had ++ ending_text ending) (Ok ending) result
FinishesBy told told' faults faults' had (Err (Queue fault)) result = WritesText told told' faults faults' had (Err (Queue fault)) result
FinishesBy told told' faults faults' had (Err Write) result = (result ≡ Err Write) × (told' ≡ told) × (faults' ≡ faults)

-- what a simulation of this run leaves of places, queue and sink, where the queue's slots tell
pub record Leaves (tells : Type 0) (whole : Run) (places' : List Place) (old new : Holding Triple) (told told' : Option (List ℕ)) (faults faults' : ℕ) (result : Result Ending SimFault) : Type 0 where
  pub ran : IfOk result (λ ending. tells → Simulates whole places' told told' ending)
  pub part : IfErr result (λ fault. tells → TakesPart told told' (journal whole))
  pub lines : IfErr result (λ fault. tells → StopsByQueue whole old.peak new.peak told told' fault)
  pub sink : SinkAfter faults faults' result
  pub queue : QueueAfter old new result
