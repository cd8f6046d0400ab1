-- How the run of an agenda ends, and what each end says of the output, the blocks and the faults.
use Rattle.std.specs.Prelude.{◌≡◌, ℕ, ◌+◌, false, List, [], take, flat_map, Option, None}
use Rattle.ppq_event.specs.ppq_record.declared.triple.Triple.{Triple}
use Rattle.ppq_event.specs.ppq_outside.Told.{Reply, TakesAll, TakesPart, Rose}
use Rattle.ppq_event.specs.ppq_queue.Shown.{Shown, AllTell}
use Rattle.ppq_event.specs.ppq_queue.Holding.{Holding}
use Rattle.ppq_event.specs.ppq_handler.Roster.{Place}
use Rattle.ppq_event.specs.ppq_handler.Agenda.{Run, entry_text, journal}
use Rattle.ppq_event.specs.Going.{greatest}
use Rattle.ppq_event.specs.declared.fault.SimFault.{SimFault}
use Rattle.ppq_event.specs.declared.fault.SimFault.TheVariants.{Write, Queue}
use Rattle.ppq_engine.specs.ppq_load.ppq_budget.Sizes.{Numbers}
use Rattle.ppq_engine.specs.ppq_array.Kept.{HasFailed, AreQuiet}
use Rattle.ppq_engine.specs.ppq_files.Filling.{HasEndedEarly}
use Rattle.ppq_engine.specs.ppq_load.declared.fault.LoadFault.{LoadFault}
use Rattle.ppq_engine.specs.ppq_load.declared.fault.LoadFault.TheVariants as load
use Rattle.ppq_engine.specs.Refusal.{HasNoRoom}
use Rattle.ppq_engine.specs.Running.{queue_end}
use Rattle.ppq_engine.specs.Outcome.{CountsStay}
use Rattle.ppq_engine.specs.declared.end.End.{End}
use Rattle.ppq_engine.specs.declared.end.End.TheVariants.{Done, ReadFault, WriteFault, DeviceFault, NoFreeBlock, Memory, FileChanged}
use Rattle.ppq_jobs.specs.Asked.{Asked, count_of, OfRun}

-- why a record file of so many bytes was not loaded, as an end
abbrev pub load_end : ℕ → LoadFault → End
load_end said (load.Queue fault) = queue_end fault
load_end said load.Read = ReadFault
load_end said load.Memory = Memory
load_end said (load.Ended got) = FileChanged 0 said got

-- why a simulation stopped, as an end
abbrev pub stop_end : SimFault → End
stop_end Write = WriteFault
stop_end (Queue fault) = queue_end fault

-- a queue as it was opened: it has no record, no block has failed, and no limit session was begun
pub record IsOpened {R : Type 0} (q : Holding R) : Type 0 where
  pub empty : q.bag ≡ []
  pub no_size : q.size ≡ 0
  pub no_peak : q.peak ≡ 0
  pub sound : q.failed ≡ None
  pub unlimited : q.limited ≡ false

-- No block was free: the lines of some first turns of the run were written, each of them whole; and there is no room for the greatest number of
-- events that were waiting, at the beginning or after one of these turns
pub record RanOut (sizes : Numbers) (count : ℕ) (run : Run) (told told' : Option (List ℕ)) : Type 0 where
  pub turns : ℕ
  pub wrote : TakesAll told told' (flat_map entry_text (take turns run.entries))
  pub room : HasNoRoom sizes false (greatest count (take turns run.waiting))

-- the file of this name ended before its length, so many bytes, which is on no line; the library does not tell
pub record HasShrunk (told : Option (List ℕ → Option (List ℕ))) (replied : Reply → Type 0) (name : List ℕ) (bytes line said got : ℕ) : Type 0 where
  pub no_line : line ≡ 0
  pub said_is : said ≡ bytes
  pub early : HasEndedEarly told replied name bytes got

module _ (told : Option (List ℕ → Option (List ℕ))) (replied : Reply → Type 0) (asked : Asked) (places : List Place) (first slots : List Shown) (sizes : Numbers) (before now : Option (List ℕ)) (sink sink_now library library_now : ℕ) where
  -- what an end says: of the files that the library tells, what it replied, the blocks first and now, the output before and now, and the counts of
  -- sink and library
  abbrev pub AgendaSays : End → Type 0
  AgendaSays Done = (AllTell first → OfRun told asked places (λ run. TakesAll before now (journal run))) × CountsStay sink sink_now library library_now × AreQuiet first slots
  AgendaSays ReadFault = Rose library library_now × (sink_now ≡ sink) × (now ≡ before)
  AgendaSays WriteFault = Rose sink sink_now × (library_now ≡ library)
  AgendaSays (DeviceFault number) = HasFailed number slots × CountsStay sink sink_now library library_now
  AgendaSays NoFreeBlock =
      (AllTell first → OfRun told asked places (λ run. RanOut sizes (count_of asked) run before now))
      × HasNoRoom sizes false (count_of asked + asked.events)
      × CountsStay sink sink_now library library_now
      × AreQuiet first slots
  AgendaSays Memory = CountsStay sink sink_now library library_now × (now ≡ before)
  AgendaSays (FileChanged line said got) = HasShrunk told replied asked.name asked.bytes line said got × CountsStay sink sink_now library library_now × (now ≡ before)
  AgendaSays _ = ⊥

  -- how the run of an agenda ended on an open queue: what its end says, and that a prefix of the journal was written
  pub record EndsAgenda (end : End) : Type 0 where
    pub says : AgendaSays end
    pub part : AllTell first → OfRun told asked places (λ run. TakesPart before now (journal run))
