-- What stands while the commands of a script are run.
use Rattle.std.specs.Prelude.{◌≡◌, ◌≤◌, ◌<◌, ◌+◌, ℕ, Bool, ◌||◌, List, [], ◌++◌, take, length, max, slice_get, Option, Some, None, ⊤}
use Rattle.ppq_script.specs.Words.{Words}
use Rattle.ppq_script.specs.ppq_record.Bag.{IsSameBag}
use Rattle.ppq_script.specs.ppq_outside.Shown.{Shown, AllTell}
use Rattle.ppq_script.specs.ppq_outside.Told.{Reply, TakesAll, TakesPart, Rose}
use Rattle.ppq_load.specs.ppq_budget.Sizes.{Numbers}
use Rattle.ppq_load.specs.ppq_array.Kept.{AreQuiet}
use Rattle.ppq_script.specs.declared.form.Form.{Form}
use Rattle.ppq_script.specs.declared.command.Command.{Command}
use Rattle.ppq_script.specs.declared.command.Command.TheVariants.{Push, Pop, Top, Size, Bulk, Gen, BulkPop, BulkPopLimit, Drain, BulkBegin, BulkPush, BulkEnd, LimitBegin, LimitPush, LimitTop, LimitPop, LimitEnd}
use Rattle.ppq_script.specs.Files.{name_at}
use Rattle.ppq_script.specs.Reading.{Reading, command_list, line_list}
use Rattle.ppq_load.specs.ppq_files.Reading.{EndsAt}
use Rattle.ppq_load.specs.Refusal.{IsRefusedBy}
use Rattle.ppq_engine.specs.Loads.{IsLoad, none_go, all_go, size_from, most_of, least_of, begins_limit, FitsWritten}
use Rattle.ppq_engine.specs.Output.{AreFilesOf, given_of, outside, output_of, output_from, state_of, bag_of, load_of, crest_of}
use Rattle.ppq_engine.specs.Gathers.{Gathers}
use Rattle.ppq_load.specs.ppq_queue.Holding.{Holding}
use Rattle.ppq_load.specs.ppq_array.declared.store_fault.StoreFault.{StoreFault as QueueFault}
use Rattle.ppq_load.specs.ppq_array.declared.store_fault.StoreFault.TheVariants.{NoFreeBlock, Device}
use Rattle.ppq_load.specs.ppq_queue.declared.fault.OpenFault.{OpenFault}
use Rattle.ppq_load.specs.ppq_queue.declared.fault.OpenFault.TheVariants as unopened
use Rattle.ppq_engine.specs.declared.end.End.{End}
use Rattle.ppq_engine.specs.declared.end.End.TheVariants as end
use Rattle.ppq_engine.specs.declared.stop.Stop.{Stop}
use Rattle.ppq_engine.specs.declared.stop.Stop.TheVariants.{Sink, Queue, Read, Memory, Changed}

-- a command that needs no session and prints one answer
abbrev pub PrintsOne : {R : Type 0} → Command R → Type 0
PrintsOne (Push item) = ⊤
PrintsOne Pop = ⊤
PrintsOne Top = ⊤
PrintsOne Size = ⊤
PrintsOne (Bulk file size) = ⊥
PrintsOne (Gen seed count) = ⊥
PrintsOne (BulkPop count) = ⊥
PrintsOne (BulkPopLimit limit count) = ⊥
PrintsOne (Drain count) = ⊤
PrintsOne BulkBegin = ⊥
PrintsOne (BulkPush pass item) = ⊥
PrintsOne BulkEnd = ⊥
PrintsOne (LimitBegin limit) = ⊥
PrintsOne (LimitPush pass item) = ⊥
PrintsOne LimitTop = ⊥
PrintsOne LimitPop = ⊥
PrintsOne LimitEnd = ⊥

-- a command that needs no session
abbrev pub LendsQueue : {R : Type 0} → Command R → Type 0
LendsQueue (Push item) = ⊤
LendsQueue Pop = ⊤
LendsQueue Top = ⊤
LendsQueue Size = ⊤
LendsQueue (Bulk file size) = ⊥
LendsQueue (Gen seed count) = ⊥
LendsQueue (BulkPop count) = ⊤
LendsQueue (BulkPopLimit limit count) = ⊤
LendsQueue (Drain count) = ⊤
LendsQueue BulkBegin = ⊥
LendsQueue (BulkPush pass item) = ⊥
LendsQueue BulkEnd = ⊥
LendsQueue (LimitBegin limit) = ⊥
LendsQueue (LimitPush pass item) = ⊥
LendsQueue LimitTop = ⊥
LendsQueue LimitPop = ⊥
LendsQueue LimitEnd = ⊥

-- of a text the sink took the beginning, and the rest is gathered
pub record IsGathered (before now : Option (List ℕ)) (gathered text : List ℕ) : Type 0 where
  pub written : List ℕ
  pub told : TakesAll before now written
  pub all : text ≡ written ++ gathered

-- what was gathered and the beginning of a text behind it are what the sink took and then what is gathered now
pub record GathersPart (before now : Option (List ℕ)) (had text has : List ℕ) : Type 0 where
  pub part : List ℕ
  pub rest : List ℕ
  pub all : text ≡ part ++ rest
  pub gathers : Gathers before now had part has

-- these commands were run, with files that are given as these records, and no session is open: their output is gathered, the queue holds
-- their multiset, had no more records than their load, and their crest fits into the budget and what was written
pub record HasRun {R : Type 0} (w : Words R) (form : Form) (given : ℕ → List R) (before now : Option (List ℕ)) (gathered : List ℕ) (bag : List R) (size peak : ℕ) (sizes : Numbers) (slots : List Shown) (commands : List (Command R)) : Type 0 where
  pub closed : state_of w given commands ≡ outside (bag_of w given commands)
  pub output : IsGathered before now gathered (output_of w form given commands)
  pub holds : IsSameBag bag (bag_of w given commands)
  pub counted : size ≡ length (bag_of w given commands)
  pub highest : peak ≤ load_of w given commands
  pub crest : FitsWritten (crest_of w given commands) sizes slots

-- the same of any files and slots, as far as the commands tell it
pub record HasSizes {R : Type 0} (w : Words R) (size peak : ℕ) (sizes : Numbers) (slots : List Shown) (commands : List (Command R)) : Type 0 where
  pub low : size_from w all_go 0 commands ≤ size
  pub high : size ≤ size_from w none_go 0 commands
  pub highest : peak ≤ most_of w commands
  pub crest : FitsWritten (least_of w commands) sizes slots

-- the first commands were run, the next wrote this text in part, and what is to come is open
pub record StopsWithin {R : Type 0} (w : Words R) (form : Form) (given : ℕ → List R) (before now : Option (List ℕ)) (gathered : List ℕ) (commands : List (Command R)) (done : ℕ) (part : List ℕ) : Type 0 where
  pub output : IsGathered before now gathered (output_of w form given (take done commands) ++ part)
  pub rest : List ℕ
  pub all : output_of w form given commands ≡ (output_of w form given (take done commands) ++ part) ++ rest

-- the queue refused a command
pub record QueueRefused {R : Type 0} (w : Words R) (form : Form) (told : Option (List ℕ → Option (List ℕ))) (script : Reading R) (first : List Shown) (before now : Option (List ℕ)) (gathered : List ℕ) (sizes : Numbers) (slots : List Shown) (fault : QueueFault) : Type 0 where
  pub done : ℕ
  pub cut :
      AllTell first → (files : List ℕ → Option (List ℕ)) → AreFilesOf told script files
      → (part : List ℕ) × StopsWithin w form (given_of w files script) before now gathered (command_list script) done part
  pub cause :
      AllTell first → (files : List ℕ → Option (List ℕ)) → AreFilesOf told script files
      → IsRefusedBy (load_of w (given_of w files script) (take (done + 1) (command_list script))) sizes (begins_limit (take (done + 1) (command_list script))) slots fault
  pub any : IsRefusedBy (most_of w (take (done + 1) (command_list script))) sizes (begins_limit (take (done + 1) (command_list script))) slots fault

-- a command that reads a file was not run: the output of those before it is gathered
pub record IsBeforeFile {R : Type 0} (w : Words R) (form : Form) (told : Option (List ℕ → Option (List ℕ))) (script : Reading R) (first : List Shown) (before now : Option (List ℕ)) (gathered : List ℕ) : Type 0 where
  pub done : ℕ
  pub file : ℕ
  pub size : ℕ
  pub here : slice_get (command_list script) done ≡ Some (Bulk file size)
  pub cut :
      AllTell first → (files : List ℕ → Option (List ℕ)) → AreFilesOf told script files
      → StopsWithin w form (given_of w files script) before now gathered (command_list script) done []

-- a command that adds many records was not run: the output of those before it is gathered
pub record IsBeforeLoad {R : Type 0} (w : Words R) (form : Form) (told : Option (List ℕ → Option (List ℕ))) (script : Reading R) (first : List Shown) (before now : Option (List ℕ)) (gathered : List ℕ) : Type 0 where
  pub done : ℕ
  pub command : Command R
  pub here : slice_get (command_list script) done ≡ Some command
  pub loads : IsLoad command
  pub cut :
      AllTell first → (files : List ℕ → Option (List ℕ)) → AreFilesOf told script files
      → StopsWithin w form (given_of w files script) before now gathered (command_list script) done []

-- the file of the command on this line ended before the length that was said of it; the library does not tell
pub record HasChanged {R : Type 0} (told : Option (List ℕ → Option (List ℕ))) (replied : Reply → Type 0) (script : Reading R) (line said got : ℕ) : Type 0 where
  pub at : ℕ
  pub file : ℕ
  pub here : slice_get (command_list script) at ≡ Some (Bulk file said)
  pub line_is : slice_get (line_list script) at ≡ Some line
  pub before : got < said
  pub read : EndsAt replied (name_at script.names file) got
  pub untold : told ≡ None

-- what stands where the commands did not all run
abbrev pub ScriptStopped : {R : Type 0} → Words R → Form → Option (List ℕ → Option (List ℕ)) → Reading R → List Shown → Option (List ℕ) → Option (List ℕ) → List ℕ → Numbers → List Shown → Stop → Type 0
ScriptStopped w form told script first before now gathered sizes slots Sink =
    AllTell first → (files : List ℕ → Option (List ℕ)) → AreFilesOf told script files → TakesPart before now (output_of w form (given_of w files script) (command_list script))
ScriptStopped w form told script first before now gathered sizes slots (Queue fault) = QueueRefused w form told script first before now gathered sizes slots fault
ScriptStopped w form told script first before now gathered sizes slots Read = IsBeforeFile w form told script first before now gathered
ScriptStopped w form told script first before now gathered sizes slots Memory = IsBeforeLoad w form told script first before now gathered
ScriptStopped w form told script first before now gathered sizes slots (Changed line said got) = IsBeforeFile w form told script first before now gathered

-- what one command wrote that did not run to its end: the sink took a part; or a part is gathered, and none of a command that adds many records
abbrev pub WroteInPart : Option (List ℕ) → Option (List ℕ) → List ℕ → List ℕ → List ℕ → Stop → Type 0
WroteInPart before now had text has Sink = TakesPart before now (had ++ text)
WroteInPart before now had text has (Queue fault) = GathersPart before now had text has
WroteInPart before now had text has Read = Gathers before now had [] has
WroteInPart before now had text has Memory = Gathers before now had [] has
WroteInPart before now had text has (Changed line said got) = Gathers before now had [] has

-- Of commands that run together from a multiset on, the first so many were run and the next stopped: all that they print is gathered, and of what
-- the others print the beginning
pub record CutAt {R : Type 0} (w : Words R) (form : Form) (given : ℕ → List R) (before now : Option (List ℕ)) (had : List ℕ) (bag : List R) (part : List (Command R)) (done : ℕ) (has : List ℕ) : Type 0 where
  pub text : List ℕ
  pub rest : List ℕ
  pub all : output_from w form given (outside bag) part ≡ (output_from w form given (outside bag) (take done part) ++ text) ++ rest
  pub gathers : Gathers before now had (output_from w form given (outside bag) (take done part) ++ text) has

-- The queue refused one of them: there is no room for the records up to it, or a block failed
pub record RefusedAt {R : Type 0} (w : Words R) (form : Form) (first : List Shown) (before now : Option (List ℕ)) (had : List ℕ) (bag : List R) (size peak : ℕ) (part : List (Command R)) (sizes : Numbers) (limited : Bool) (slots : List Shown) (has : List ℕ) (fault : QueueFault) : Type 0 where
  pub done : ℕ
  pub within : done < length part
  pub cut : AllTell first → (given : ℕ → List R) → CutAt w form given before now had bag part done has
  pub cause : IsRefusedBy (max peak (size_from w none_go size (take (done + 1) part))) sizes limited slots fault

-- What commands that run together wrote where they did not all run: the sink took a part; or the beginning is gathered, up to the one that was
-- refused; or nothing is, where a file or memory was wanting
abbrev pub PartStops : {R : Type 0} → Words R → Form → List Shown → Option (List ℕ) → Option (List ℕ) → List ℕ → List R → ℕ → ℕ → List (Command R) → Numbers → Bool → List Shown → List ℕ → Stop → Type 0
PartStops {R} w form first before now had bag size peak part sizes limited slots has Sink = AllTell first → (given : ℕ → List R) → TakesPart before now (had ++ output_from w form given (outside bag) part)
PartStops w form first before now had bag size peak part sizes limited slots has (Queue fault) = RefusedAt w form first before now had bag size peak part sizes limited slots has fault
PartStops w form first before now had bag size peak part sizes limited slots has Read = AllTell first → Gathers before now had [] has
PartStops w form first before now had bag size peak part sizes limited slots has Memory = AllTell first → Gathers before now had [] has
PartStops w form first before now had bag size peak part sizes limited slots has (Changed line said got) = AllTell first → Gathers before now had [] has

-- a stop by a file comes from a command that reads one, and want of memory from a command that adds many records
abbrev pub IsOfFile : {R : Type 0} → Command R → Stop → Type 0
IsOfFile command Sink = ⊤
IsOfFile command (Queue fault) = ⊤
IsOfFile command Read = (file : ℕ) × ((size : ℕ) × (command ≡ Bulk file size))
IsOfFile command Memory = IsLoad command
IsOfFile command (Changed line said got) = (file : ℕ) × ((size : ℕ) × (command ≡ Bulk file size))

-- a queue behind commands that run together: whether a limit session was begun is known of it
abbrev pub behind_part : {R : Type 0} → Holding R → List (Command R) → Holding R
behind_part queue part = record queue { limited = queue.limited || begins_limit part }

-- where it was the queue, it says why
abbrev pub StopsFor : ℕ → Numbers → Bool → List Shown → Stop → Type 0
StopsFor peak sizes limited slots Sink = ⊤
StopsFor peak sizes limited slots (Queue fault) = IsRefusedBy peak sizes limited slots fault
StopsFor peak sizes limited slots Read = ⊤
StopsFor peak sizes limited slots Memory = ⊤
StopsFor peak sizes limited slots (Changed line said got) = ⊤

-- where no block was free, no call of a block failed
abbrev pub QuietIfFull : List Shown → List Shown → QueueFault → Type 0
QuietIfFull before now NoFreeBlock = AreQuiet before now
QuietIfFull before now (Device number) = ⊤

-- the same of a stop
abbrev pub StopsQuiet : List Shown → List Shown → Stop → Type 0
StopsQuiet before now Sink = ⊤
StopsQuiet before now (Queue fault) = QuietIfFull before now fault
StopsQuiet before now Read = ⊤
StopsQuiet before now Memory = ⊤
StopsQuiet before now (Changed line said got) = ⊤

-- where a file had changed, it says which
abbrev pub ChangedIn : {R : Type 0} → Option (List ℕ → Option (List ℕ)) → (Reply → Type 0) → Reading R → Stop → Type 0
ChangedIn told replied script Sink = ⊤
ChangedIn told replied script (Queue fault) = ⊤
ChangedIn told replied script Read = ⊤
ChangedIn told replied script Memory = ⊤
ChangedIn told replied script (Changed line said got) = HasChanged told replied script line said got

-- the sink's count rose where it was the sink, and else stayed
abbrev pub SinkAfter : ℕ → ℕ → Stop → Type 0
SinkAfter before now Sink = Rose before now
SinkAfter before now (Queue fault) = now ≡ before
SinkAfter before now Read = now ≡ before
SinkAfter before now Memory = now ≡ before
SinkAfter before now (Changed line said got) = now ≡ before

-- the library's count rose where a read failed, and else stayed
abbrev pub LibraryAfter : ℕ → ℕ → Stop → Type 0
LibraryAfter before now Sink = now ≡ before
LibraryAfter before now (Queue fault) = now ≡ before
LibraryAfter before now Read = Rose before now
LibraryAfter before now Memory = now ≡ before
LibraryAfter before now (Changed line said got) = now ≡ before

-- a queue's fault as an end
abbrev pub queue_end : QueueFault → End
queue_end NoFreeBlock = end.NoFreeBlock
queue_end (Device number) = end.DeviceFault number

-- why a queue was not opened, as an end
abbrev pub open_end : OpenFault → End
open_end (unopened.TooSmall need) = end.BudgetTooSmall need
open_end unopened.Memory = end.Memory
