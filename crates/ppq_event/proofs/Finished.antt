-- The end of a simulation.
use Rattle.std.proofs.Common.{ℕ, ◌∙◌, List, [], refl, sym, subst, inl, inr, arith, Option, append-nil}
use Rattle.std.specs.Prelude.{Result, Ok, Err, IfOk, IfErr}
use Rattle.ppq_handler.specs.ppq_record.declared.triple.Triple.{Triple}
use Rattle.ppq_handler.specs.ppq_outside.Told.{TakesPart}
use Rattle.ppq_handler.specs.declared.ending.Ending.{Ending}
use Rattle.ppq_handler.specs.Roster.{Place}
use Rattle.ppq_handler.specs.Agenda.{Run, ending_text, ended, journal}
use Rattle.ppq_queue.specs.Holding.{Holding}
use Rattle.ppq_queue.specs.ppq_array.declared.store_fault.StoreFault.{StoreFault as QueueFault}
use Rattle.ppq_queue.specs.ppq_array.declared.store_fault.StoreFault.TheVariants.{NoFreeBlock, Device}
use Rattle.ppq_event.specs.declared.fault.SimFault.{SimFault}
use Rattle.ppq_event.specs.declared.fault.SimFault.TheVariants.{Write, Queue}
use Rattle.ppq_event.specs.Waiting.{Refuses, MayHaveStopped, QueueAfter}
use Rattle.ppq_event.specs.Going.{SinkAfter, text_of, HasMade, StopsRun}
use Rattle.ppq_event.specs.Simulated.{FinishesBy, Leaves}
use Rattle.ppq_event.proofs.Made.{simulated, prefix_written, prefix_ended, lines_written, lines_are_prefix}

module _ (tells : Type 0) (whole : Run) (places : List Place) (old new : Holding Triple) (told mid told' : Option (List ℕ)) (has : List ℕ) (faults between faults' : ℕ) where
  stood : (fault : QueueFault) → Refuses old new fault → MayHaveStopped old new
  stood NoFreeBlock h = inl h.sound
  stood (Device number) h = inr (number, h)

  -- what a simulation leaves, by how its rounds ended and what was written then
  pub finished :
      (given result : Result Ending SimFault) → QueueAfter old new given → SinkAfter faults between given
      → IfOk given (λ ending. tells → HasMade whole (ended ending places) old.peak new.peak (text_of told []) (text_of mid has))
      → IfErr given (λ fault. tells → StopsRun whole old.peak new.peak (text_of told []) (text_of mid has) fault)
      → FinishesBy mid told' between faults' has given result → Leaves tells whole places old new told told' faults faults' result
  finished (Ok ending) result queue sink made stops (inl w) =
      subst (Leaves tells whole places old new told told' faults faults') (sym w.0) (record {
        ran = λ tell. simulated whole ending places old.peak new.peak told mid told' has (made tell) w.1;
        part = tt;
        lines = tt;
        sink = w.2 ∙ sink;
        queue = queue;
      })
  finished (Ok ending) result queue sink made stops (inr w) =
      subst (Leaves tells whole places old new told told' faults faults') (sym w.0) (record {
        ran = tt;
        part = λ tell. prefix_ended whole (ended ending places) old.peak new.peak told mid told' has (ending_text ending) [] (made tell) (sym (append-nil (ending_text ending))) w.1;
        lines = λ tell. tt;
        sink = omega (arith, w.2, sink);
        queue = inl queue;
      })
  finished (Err (Queue fault)) result queue sink made stops (inl w) =
      subst (Leaves tells whole places old new told told' faults faults') (sym w.0) (record {
        ran = tt;
        part = λ tell. lines_are_prefix whole old.peak new.peak told told' (lines_written whole (stops tell).0 old.peak new.peak told mid told' has (stops tell).1 w.1);
        lines = λ tell. lines_written whole (stops tell).0 old.peak new.peak told mid told' has (stops tell).1 w.1;
        sink = w.2 ∙ sink;
        queue = queue;
      })
  finished (Err (Queue fault)) result queue sink made stops (inr w) =
      subst (Leaves tells whole places old new told told' faults faults') (sym w.0) (record {
        ran = tt;
        part = λ tell. prefix_ended whole (stops tell).0 old.peak new.peak told mid told' has [] (journal (stops tell).0) (stops tell).1 refl (subst (TakesPart mid told') (sym (append-nil has)) w.1);
        lines = λ tell. tt;
        sink = omega (arith, w.2, sink);
        queue = stood fault queue;
      })
  finished (Err Write) result queue sink made stops w =
      subst (Leaves tells whole places old new told told' faults faults') (sym w.0) (record {
        ran = tt;
        part = λ tell. subst (λ o. TakesPart told o (journal whole)) (sym w.1) (prefix_written whole told mid has (stops tell));
        lines = λ tell. tt;
        sink = omega (arith, w.2, sink);
        queue = queue;
      })
