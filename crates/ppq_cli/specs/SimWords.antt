-- The words of the contract of `sim_words`: the agenda that the arguments name, its run, and what is said of it.
use Rattle.std.specs.Prelude.{◌≡◌, ◌⊎◌, ◌≤◌, ◌+◌, ◌*◌, false, ℕ, List, length, Option, Some, None, IfSome, ⊤, String}
use Rattle.std.specs.declared.alloc.Global.{Global}
use Rattle.ppq_files.specs.Lengths.{IsRecordLength, IsAbsent, HasPartRecords}
use Rattle.ppq_files.specs.Reading.{IsOn}
use Rattle.ppq_words.specs.ppq_outside.Shown.{Shown}
use Rattle.ppq_words.specs.ppq_outside.Told.{Reply, OfLength, RepliesOnly}
use Rattle.ppq_words.specs.ppq_outside.declared.library.Library.{Ghosts as LibraryShows}
use Rattle.ppq_words.specs.ppq_outside.declared.rack.Rack.{Ghosts as RackShows}
use Rattle.ppq_words.specs.ppq_outside.declared.sink.Sink.{Ghosts as SinkShows}
use Rattle.ppq_words.specs.ppq_budget.Sizes.{Numbers, fixed_of}
use Rattle.ppq_words.specs.Reading.{texts_of, sizes_for}
use Rattle.ppq_words.specs.SimReading.{SimReading, sim_reading_of, may_sim}
use Rattle.ppq_jobs.specs.ppq_engine.Refusal.{HasRoom, HasNoRoom}
use Rattle.ppq_jobs.specs.ppq_engine.Ends.{class_of, IsRefusal, NoFault, IsCompleted}
use Rattle.ppq_jobs.specs.ppq_engine.declared.end.End.{End}
use Rattle.ppq_jobs.specs.ppq_engine.declared.end.End.TheVariants.{Done, Usage, NoFreeBlock, BudgetTooSmall, Memory, FileChanged, NoDevice, NoScript, BadAgenda, BadEdge}
use Rattle.ppq_jobs.specs.ppq_engine.declared.end.Ended.{Ended}
use Rattle.ppq_jobs.specs.ppq_handler.Roster.{Place}
use Rattle.ppq_jobs.specs.ppq_handler.Agenda.{Run, journal}
use Rattle.ppq_jobs.specs.Asked.{Asked, count_of, run_of, load_of_run}
use Rattle.ppq_jobs.specs.Ending.{RanOut, HasShrunk}
use Rattle.ppq_cli.specs.Budget.{plan_for, IsBelow}
use Rattle.ppq_cli.specs.Device.{IsSurelyRun, DeviceShape}
use Rattle.ppq_cli.specs.Load.{refusal_of_record_length, refusal_of_record_file}
use Rattle.ppq_cli.specs.Outside.{WritesText, IsHigher, OutsideKept, Unreadable}
use Rattle.ppq_cli.specs.Replies.{Files}
use Rattle.ppq_cli.specs.RunWords.{IsAnswer}

-- The agenda that the words name.

-- what the words say, where they have a reading
abbrev pub sim_reading : List (String Global) → Option SimReading
sim_reading words = sim_reading_of (texts_of words)

-- the fact holds of what the words say, where they have a reading
abbrev pub OfSim : List (String Global) → (SimReading → Type 0) → Type 0
OfSim words P = IfSome (sim_reading words) P

-- the device that they name, and what it has: so many blocks, each of the bytes of its events
abbrev pub sim_device : SimReading → List ℕ
sim_device r = r.device

abbrev pub sim_blocks : SimReading → DeviceShape
sim_blocks r = record { blocks = r.given.numbers.blocks; IsSize = λ bytes. bytes ≡ r.given.numbers.block * 24 }

-- the sizes of the queue in which events wait, each of 24 bytes
abbrev pub sim_sizes : SimReading → Numbers
sim_sizes r = sizes_for 24 r.given

-- what they ask of an agenda of so many bytes
abbrev pub asked_by : SimReading → ℕ → Asked
asked_by r size = record { name = r.agenda; bytes = size; until = r.until; events = r.events }

-- a fact about a simulation: about what the words say, what is asked, and the run of the agenda machine
abbrev pub AboutRun : Type 1
AboutRun = SimReading → Asked → Run → Type 0

-- the fact holds of the agenda of these arguments, and of its run with handlers in these places, where the library tells and has it
abbrev pub OfEvents : Option Files → SimReading → List Place → AboutRun → Type 0
OfEvents told r places P = IfSome told (λ files. IfSome (files r.agenda) (λ bytes. P r (asked_by r (length bytes)) (run_of files (asked_by r (length bytes)) places)))

-- the same of the agenda that the words name
abbrev pub OfAgenda : {L : Type 0} → (L → Option Files) → L → List (String Global) → List Place → AboutRun → Type 0
OfAgenda told library words places P = OfSim words (λ r. OfEvents (told library) r places P)

-- What is written.

-- the fact holds of the journal of that run, where blocks and library tell and the library has the agenda
abbrev pub OfJournal : {L : Type 0} → Type 0 → (L → Option Files) → L → List (String Global) → List Place → (List ℕ → Type 0) → Type 0
OfJournal tells told library words places P = tells → OfAgenda told library words places (λ r asked run. P (journal run))

-- the device has too few blocks for the events that were waiting at the most by the turns whose lines were written, of a run that began with as
-- many as the agenda has
abbrev pub RunsOut : {S : Type 0} → (S → Option (List ℕ)) → S → S → AboutRun
RunsOut told before now r asked run = RanOut (sim_sizes r) (count_of asked) run (told before) (told now)

-- When each outcome comes.

-- the answer that refuses an agenda of so many bytes: first that these are not whole events, or too many of them, then that the budget is too small
abbrev pub sim_refusal_of_length : SimReading → ℕ → Option End
sim_refusal_of_length r size = refusal_of_record_length 24 (plan_for 24 r.given) BadAgenda size

-- before both, that it is not there
abbrev pub sim_refusal_of_file : SimReading → Option (List ℕ) → Option End
sim_refusal_of_file r file = refusal_of_record_file 24 (plan_for 24 r.given) BadAgenda file

-- before all of them, that the words have no reading
abbrev pub sim_refusal_of : Option SimReading → Files → Option End
sim_refusal_of None files = Some Usage
sim_refusal_of (Some r) files = sim_refusal_of_file r (files r.agenda)

-- the fact holds of a length that the library replied of the agenda, which is one of whole events
abbrev pub OfSize : (Reply → Type 0) → SimReading → (ℕ → Type 0) → Type 0
OfSize replied r P = (size : ℕ) × (replied (OfLength r.agenda (Some size)) × (IsRecordLength 24 size × P size))

-- the same, and the budget is no less than its fixed part
abbrev pub OfTried : (Reply → Type 0) → SimReading → (ℕ → Type 0) → Type 0
OfTried replied r P = (fixed_of (sim_sizes r) ≤ (sim_sizes r).memory) × OfSize replied r P

-- if the end refuses the agenda, that rests on what the library replied of it; it is no refusal of another kind
abbrev pub SimEndIsRight : Option Files → (Reply → Type 0) → SimReading → End → Type 0
SimEndIsRight told replied r NoScript = IsAbsent replied r.agenda
SimEndIsRight told replied r BadAgenda = HasPartRecords 24 replied r.agenda
SimEndIsRight told replied r (BudgetTooSmall need) = IsBelow (plan_for 24 r.given) need × OfSize replied r (λ size. ⊤)
SimEndIsRight told replied r (FileChanged line said got) = OfTried replied r (λ size. HasShrunk told replied r.agenda size line said got)
SimEndIsRight told replied r NoDevice = OfTried replied r (λ size. ⊤)
SimEndIsRight told replied r (BadEdge at) = ⊥
SimEndIsRight told replied r end = ¬ IsRefusal (class_of end)

-- the device has too few blocks for the events of the agenda and one for each turn
abbrev pub HasNoRoomForAll : SimReading → ℕ → Type 0
HasNoRoomForAll r size = HasNoRoom (sim_sizes r) false (count_of (asked_by r size) + r.events)

-- Completeness.

-- an agenda that is not refused, and for whose events there is room, as many as are waiting at the most, is done, or memory was wanting
abbrev pub EndsWell : End → AboutRun
EndsWell end r asked run = sim_refusal_of_length r asked.bytes ≡ None → HasRoom (sim_sizes r) false (load_of_run (count_of asked) run) → (end ≡ Done) ⊎ (end ≡ Memory)

-- The budget is no less than its fixed part, and whatever the library replied of the agenda, it is there, of whole events, and there is room for them
-- and one for each turn
pub record HasRoomForAny (replied : Reply → Type 0) (r : SimReading) : Type 0 where
  pub budget : fixed_of (sim_sizes r) ≤ (sim_sizes r).memory
  pub there : ¬ IsAbsent replied r.agenda
  pub each : (size : ℕ) → replied (OfLength r.agenda (Some size)) → IsRecordLength 24 size × HasRoom (sim_sizes r) false (count_of (asked_by r size) + r.events)

-- The clauses of `sim_words` under their names, for an outcome with its blocks and a roster with handlers in these places: those that speak of the
-- outside alone are in `WritesText`, `OutsideKept` and `Unreadable`
pub record SimsWords
    {L K O S : Type 0} (library : LibraryShows L) (rack : RackShows K S) (sink : SinkShows O) (shown : S → Shown) (words : List (String Global)) (places : List Place)
    (old_library new_library : L) (old_rack new_rack : K) (old_out new_out : O) (ended : Ended S) : Type 0 where
  -- after Done the sink took the journal, after every other end a prefix of it, and nothing before a run, as where memory was wanting
  pub written : WritesText (OfJournal (rack.tells old_rack) library.told old_library words places) (sink.told old_out) (sink.told new_out) ended.end
  pub before : IsSurelyRun ended.end ⊎ (sink.told new_out ≡ sink.told old_out)
  -- no block was free for the events that waited; or, for every library, for those of the agenda and one for each turn
  pub full : ended.end ≡ NoFreeBlock → rack.tells old_rack → OfAgenda library.told old_library words places (RunsOut sink.told old_out new_out)
  pub full_any : ended.end ≡ NoFreeBlock → OfSim words (λ r. OfTried (library.replied new_library) r (HasNoRoomForAll r))
  -- the library was asked for nothing but the agenda, and not past its length
  pub reads : OfSim words (λ r. RepliesOnly (library.replied old_library) (library.replied new_library) (IsOn (library.replied new_library) r.agenda))
  pub outside : OutsideKept IsHigher library rack sink shown (sim_reading words) sim_device sim_blocks old_library new_library old_rack new_rack old_out new_out ended
  pub unreadable : Unreadable (sim_reading words) (may_sim (texts_of words)) old_library new_library old_rack new_rack old_out new_out ended
  -- refusals, in their order where the library tells, and by its replies where it does not
  pub answer : IfSome (library.told old_library) (λ files. IsAnswer (sim_refusal_of (sim_reading words) files) ended.end)
  pub refused : OfSim words (λ r. SimEndIsRight (library.told old_library) (library.replied new_library) r ended.end)
  -- completeness, where blocks and library tell, and for every library
  pub complete : rack.tells old_rack → NoFault ended.end → OfAgenda library.told old_library words places (EndsWell ended.end)
  pub complete_any : NoFault ended.end → OfSim words (λ r. HasRoomForAny (library.replied new_library) r → IsCompleted (library.told old_library) ended.end)
