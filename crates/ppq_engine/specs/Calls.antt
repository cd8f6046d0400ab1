-- What one call of the engine did to the queue, the sink and the library.
use Rattle.std.specs.Prelude.{◌≡◌, ◌≤◌, ◌<◌, ◌+◌, ◌-◌, ◌||◌, ℕ, false, length, List, [], max, slice_get, Option, Some, None, Result, OnOk, IfErr, IsTrue, ⊤}
use Rattle.ppq_script.specs.Words.{Words}
use Rattle.ppq_script.specs.ppq_record.Bag.{IsSameBag}
use Rattle.ppq_script.specs.ppq_outside.Shown.{Shown, AllTell}
use Rattle.ppq_script.specs.ppq_outside.Told.{Reply, Remembers, RepliesOnly, TakesPart}
use Rattle.ppq_load.specs.ppq_array.Kept.{SameSlots, AreQuiet}
use Rattle.ppq_script.specs.declared.form.Form.{Form}
use Rattle.ppq_script.specs.declared.command.Command.{Command}
use Rattle.ppq_script.specs.declared.part.Part.{Part}
use Rattle.ppq_script.specs.Files.{NamesFile, HasRecords}
use Rattle.ppq_script.specs.Reading.{Reading, command_list}
use Rattle.ppq_script.specs.Parts.{first_in, HasItsLines}
use Rattle.ppq_load.specs.ppq_counts.Tally.{no_tally}
use Rattle.ppq_load.specs.ppq_queue.Holding.{Holding, CountsFew}
use Rattle.ppq_load.specs.ppq_array.declared.store_fault.StoreFault.{StoreFault as QueueFault}
use Rattle.ppq_load.specs.Refusal.{Keeps, IsRefusedBy}
use Rattle.ppq_engine.specs.Files.{IsBySession, IsReadInScript}
use Rattle.ppq_engine.specs.Gathers.{Gathers}
use Rattle.ppq_engine.specs.Loads.{none_go, all_go, size_after, size_from, least_of, begins_limit, FitsWritten}
use Rattle.ppq_engine.specs.Output.{AreFilesOf, TellsLengths, given_of, outside, text_of, after, output_from, state_from, output_of, crest_of}
use Rattle.ppq_engine.specs.Outcome.{EndSays, FaultBeforeFile}
use Rattle.ppq_engine.specs.Popping.{NotByFile, IsRound}
use Rattle.ppq_engine.specs.Running.{IsGathered, WroteInPart, StopsFor, QuietIfFull, StopsQuiet, PartStops, behind_part, IsOfFile, ChangedIn, SinkAfter, LibraryAfter}
use Rattle.ppq_engine.specs.Work.{pushes_of, pushed_by, begun_by}
use Rattle.ppq_engine.specs.declared.end.End.{End}
use Rattle.ppq_engine.specs.declared.stop.Stop.{Stop}

-- a call that the machine makes of its queue, whatever it answers: what the queue keeps, that nothing was printed, that the peak is no more
-- than this, that no more than so many records were counted, why it was refused, and that no call of a block failed where none was free
pub record IsCalled {R T : Type 0} (old new : Holding R) (had has : List ℕ) (most pushes : ℕ) (result : Result T QueueFault) : Type 0 where
  pub kept : Keeps old new
  pub gathered : has ≡ had
  pub peak : new.peak ≤ most
  pub counted : CountsFew pushes 0 old new result
  pub refused : IfErr result (IsRefusedBy new.peak new.sizes new.limited new.slots)
  pub quiet : IfErr result (QuietIfFull old.slots new.slots)

-- a command that calls the queue: what it keeps, that the peak is no more than this, that no more than so many records were counted, why it
-- stopped, and that no call of a block failed where none was free; no file stopped it
pub record IsLent {R : Type 0} {T : Type 0} (old new : Holding R) (most pushes : ℕ) (result : Result T Stop) : Type 0 where
  pub kept : Keeps old new
  pub peak : new.peak ≤ most
  pub counted : CountsFew pushes 0 old new result
  pub refused : IfErr result (StopsFor new.peak new.sizes new.limited new.slots)
  pub quiet : IfErr result (StopsQuiet old.slots new.slots)
  pub no_file : IfErr result NotByFile

-- what a queue has after a call that ran to its end: this multiset if its slots tell, at least and at most so many records, and no failed slot
pub record Leaves {R : Type 0} (old new : Holding R) (left : List R) (least most : ℕ) : Type 0 where
  pub bag : AllTell old.slots → IsSameBag new.bag left
  pub low : least ≤ new.size
  pub high : new.size ≤ most
  pub sound : new.failed ≡ None
  pub quiet : AreQuiet old.slots new.slots

-- a round of records was popped
pub record PopsRound {R : Type 0} (w : Words R) (below : Option R) (count : ℕ) (old new : Holding R) (items : List R) : Type 0 where
  pub round : AllTell old.slots → IsRound w below count old.bag new.bag items
  pub few : length items ≤ count
  pub end : below ≡ None → items ≡ [] → old.size ≡ 0
  pub size : new.size ≡ old.size - length items
  pub sound : new.failed ≡ None
  pub quiet : AreQuiet old.slots new.slots

-- so many records were added: the size, no failed slot, and the peak
pub record Adds {R : Type 0} (old new : Holding R) (count : ℕ) : Type 0 where
  pub size : new.size ≡ old.size + count
  pub sound : new.failed ≡ None
  pub quiet : AreQuiet old.slots new.slots
  pub peak : new.peak ≤ max old.peak (old.size + count)

-- a command printed this text, or a part of it if it stopped, as far as the slots tell
pub record Prints {T : Type 0} (first : List Shown) (before now : Option (List ℕ)) (had whole has : List ℕ) (result : Result T Stop) : Type 0 where
  pub text : OnOk result (AllTell first → Gathers before now had whole has)
  pub part : IfErr result (λ stop. AllTell first → WroteInPart before now had whole has stop)

-- the sink's count of faults rose if the sink stopped the command, and else stayed
pub record SinkCounts {T : Type 0} (before now : ℕ) (result : Result T Stop) : Type 0 where
  pub later : before ≤ now
  pub stays : OnOk result (now ≡ before)
  pub cause : IfErr result (SinkAfter before now)

-- the library has the files that it had; it was asked for files of the script alone, and its count of faults did not fall
pub record LibraryStays {R : Type 0} (files files_now : Option (List ℕ → Option (List ℕ))) (replied replied_now : Reply → Type 0) (script : Reading R) (before now : ℕ) : Type 0 where
  pub told : files_now ≡ files
  pub remembers : Remembers replied replied_now
  pub asks : RepliesOnly replied replied_now (IsReadInScript script)
  pub later : before ≤ now

-- the same; and the count rose if the library stopped the command, and else stayed; if a file had changed, which
pub record LibraryCounts {R : Type 0} {T : Type 0} (files files_now : Option (List ℕ → Option (List ℕ))) (replied replied_now : Reply → Type 0) (script : Reading R) (before now : ℕ) (result : Result T Stop) : Type 0 where
  pub told : files_now ≡ files
  pub remembers : Remembers replied replied_now
  pub asks : RepliesOnly replied replied_now (IsReadInScript script)
  pub later : before ≤ now
  pub stays : OnOk result (now ≡ before)
  pub cause : IfErr result (LibraryAfter before now)
  pub changed : IfErr result (ChangedIn files replied_now script)

-- a part that begins at this place of a script, where no session is open, and a queue that may run it: of the script's workers, and no call
-- of a slot of it failed
pub record IsTurn {R : Type 0} (w : Words R) (script : Reading R) (queue : Holding R) (place : ℕ) (part : Part R) : Type 0 where
  pub place_is : place < length script.commands
  pub first : slice_get (command_list script) place ≡ Some (first_in part)
  pub lines : HasItsLines w queue.sizes.workers part
  pub file : NamesFile (length script.names) (first_in part)
  pub records : HasRecords w (first_in part)
  pub sound : queue.failed ≡ None

-- what one command did to the queue where it ran to its end
pub record RunsStep {R : Type 0} (w : Words R) (told : Option (List ℕ → Option (List ℕ))) (script : Reading R) (old new : Holding R) (command : Command R) : Type 0 where
  pub bag : AllTell old.slots → (files : List ℕ → Option (List ℕ)) → AreFilesOf told script files → IsSameBag new.bag (after w (given_of w files script) (outside old.bag) command).bag
  pub low : size_after w all_go old.size command ≤ new.size
  pub high : new.size ≤ size_after w none_go old.size command
  pub sound : new.failed ≡ None
  pub quiet : AreQuiet old.slots new.slots
  pub peak : new.peak ≤ max old.peak (size_after w none_go old.size command)

-- why it did not: the queue refused, or a file or an allocation that this command needs
pub record StopsStep {R : Type 0} (w : Words R) (old new : Holding R) (command : Command R) (stop : Stop) : Type 0 where
  pub refused : StopsFor (max old.peak (size_after w none_go old.size command)) old.sizes old.limited new.slots stop
  pub of_file : IsOfFile command stop

-- what commands that run together printed and did to the queue where they ran to their end
pub record RunsPart {R : Type 0} (w : Words R) (form : Form) (told : Option (List ℕ → Option (List ℕ))) (script : Reading R) (old new : Holding R) (before now : Option (List ℕ)) (had has : List ℕ) (part : List (Command R)) : Type 0 where
  pub text : AllTell old.slots → (given : ℕ → List R) → Gathers before now had (output_from w form given (outside old.bag) part) has
  pub bag : AllTell old.slots → (files : List ℕ → Option (List ℕ)) → AreFilesOf told script files → IsSameBag new.bag (state_from w (given_of w files script) (outside old.bag) part).bag
  pub low : size_from w all_go old.size part ≤ new.size
  pub high : new.size ≤ size_from w none_go old.size part
  pub sound : new.failed ≡ None
  pub quiet : AreQuiet old.slots new.slots
  pub peak : new.peak ≤ max old.peak (size_from w none_go old.size part)
  pub kept : Keeps (behind_part old part) new

-- why they did not, and what they printed before
pub record StopsPart {R : Type 0} (w : Words R) (form : Form) (old new : Holding R) (before now : Option (List ℕ)) (had has : List ℕ) (command : Command R) (part : List (Command R)) (stop : Stop) : Type 0 where
  pub wrote : PartStops w form old.slots before now had old.bag old.size old.peak part old.sizes (old.limited || begins_limit part) new.slots has stop
  pub of_file : IsOfFile command stop

-- a command that lends the queue, whatever it answers: what it printed, what it left, and why it stopped
pub record Lends {R : Type 0} (w : Words R) (form : Form) (before now : Option (List ℕ)) (sink sink_now : ℕ) (old new : Holding R) (had has : List ℕ) (command : Command R) (result : Result ⊤ Stop) : Type 0 where
  pub prints : Prints old.slots before now had (text_of w form (outside old.bag) command) has result
  pub counts : SinkCounts sink sink_now result
  pub left : OnOk result ((given : ℕ → List R) → Leaves old new (after w given (outside old.bag) command).bag (size_after w all_go old.size command) (size_after w none_go old.size command))
  pub lent : IsLent old new (max old.peak (size_after w none_go old.size command)) (pushes_of w command) result

-- commands that run together, of which this is the first, whatever is answered: what they did, or why they stopped, and that no call of a block
-- failed where none was free; and that the queue counts no more records and sessions than they bring
pub record Goes {R : Type 0} (w : Words R) (form : Form) (files : Option (List ℕ → Option (List ℕ))) (script : Reading R) (first : Command R) (part : List (Command R)) (before now : Option (List ℕ)) (old new : Holding R) (had has : List ℕ) (result : Result ⊤ Stop) : Type 0 where
  pub runs : OnOk result (RunsPart w form files script old new before now had has part)
  pub stopped : IfErr result (StopsPart w form old new before now had has first part)
  pub quiet : IfErr result (StopsQuiet old.slots new.slots)
  pub slots : SameSlots old.slots new.slots
  pub sizes : new.sizes ≡ old.sizes
  pub counted : CountsFew (pushed_by w part) (begun_by part) old new result

-- the same of commands that need no file and print nothing, in any script
pub record GoesAlone {R : Type 0} (w : Words R) (first : Command R) (part : List (Command R)) (old new : Holding R) (had has : List ℕ) (result : Result ⊤ Stop) : Type 0 where
  pub goes : (form : Form) (files : Option (List ℕ → Option (List ℕ))) (script : Reading R) (put : Option (List ℕ)) → Goes w form files script first part put put old new had has result
  pub by_session : IfErr result IsBySession

-- a checked script of whose files the library tells the lengths that it keeps, and a queue for its workers that nothing was done with
pub record MayRun {R : Type 0} (files : Option (List ℕ → Option (List ℕ))) (script : Reading R) (queue : Holding R) : Type 0 where
  pub checked : IsTrue script.checked
  pub lengths : TellsLengths files script
  pub workers : script.workers ≡ queue.sizes.workers
  pub bag : queue.bag ≡ []
  pub size : queue.size ≡ 0
  pub peak : queue.peak ≡ 0
  pub sound : queue.failed ≡ None
  pub unlimited : queue.limited ≡ false
  pub counts : queue.counts ≡ no_tally
  pub in_heap : queue.in_heap ≡ 0

-- all commands of a script were run
pub record RunsAll {R : Type 0} (w : Words R) (form : Form) (told : Option (List ℕ → Option (List ℕ))) (script : Reading R) (old new : Holding R) (before now : Option (List ℕ)) (has : List ℕ) : Type 0 where
  pub all : AllTell old.slots → (files : List ℕ → Option (List ℕ)) → AreFilesOf told script files → IsGathered before now has (output_of w form (given_of w files script) (command_list script))
  pub crest : AllTell old.slots → (files : List ℕ → Option (List ℕ)) → AreFilesOf told script files → FitsWritten (crest_of w (given_of w files script) (command_list script)) old.sizes new.slots
  pub least : FitsWritten (least_of w (command_list script)) old.sizes new.slots
  pub quiet : AreQuiet old.slots new.slots

-- how a run on a queue ended: what was put is a part of the script's output; what the end says; and what was put if a file ended the run
pub record EndsRun {R : Type 0} (w : Words R) (form : Form) (told : Option (List ℕ → Option (List ℕ))) (replied : Reply → Type 0) (script : Reading R) (old new : Holding R) (before now : Option (List ℕ)) (sink sink_now library library_now : ℕ) (end : End) : Type 0 where
  pub part : AllTell old.slots → (files : List ℕ → Option (List ℕ)) → AreFilesOf told script files → TakesPart before now (output_of w form (given_of w files script) (command_list script))
  pub says : EndSays w form told replied script old.slots new.slots old.sizes before now sink sink_now library library_now end
  pub file : FaultBeforeFile w form told script old.slots before now end
