-- The words of the contract of `run_words`, in the order of its clauses; those that speak of the outside alone are in `Outside`. `run_over`, `run_and_report` and `run_twice` use them too.
use Rattle.std.specs.Prelude.{◌≡◌, ◌⊎◌, ◌*◌, ℕ, List, length, Option, Some, None, if◌then◌else◌, IfSome, nat_lt, MatchOption, map, slice_get, take, String}
use Rattle.std.specs.declared.alloc.Global.{Global}
use Rattle.ppq_jobs.specs.ppq_engine.ppq_load.Given.{records_of}
use Rattle.ppq_words.specs.ppq_outside.Shown.{Shown}
use Rattle.ppq_words.specs.ppq_outside.Told.{Reply, TakesAll, TakesPart, bytes_or_none}
use Rattle.ppq_words.specs.ppq_outside.declared.library.Library.{Ghosts as LibraryShows}
use Rattle.ppq_words.specs.ppq_outside.declared.rack.Rack.{Ghosts as RackShows}
use Rattle.ppq_words.specs.ppq_outside.declared.sink.Sink.{Ghosts as SinkShows}
use Rattle.ppq_words.specs.ppq_script.Words.{Words}
use Rattle.ppq_words.specs.ppq_script.declared.command.Command.{Command}
use Rattle.ppq_words.specs.ppq_script.declared.command.Command.TheVariants.{Bulk}
use Rattle.ppq_words.specs.ppq_script.Lines.{numbered_of, names_of, first_bad_by}
use Rattle.ppq_words.specs.ppq_script.Files.{name_at, is_usable}
use Rattle.ppq_words.specs.ppq_script.Checking.{with_sizes}
use Rattle.ppq_words.specs.Reading.{Reading, reading_of, texts_of, sizes_at}
use Rattle.ppq_words.specs.Strays.{may_run}
use Rattle.ppq_jobs.specs.ppq_engine.declared.end.End.{End}
use Rattle.ppq_jobs.specs.ppq_engine.declared.end.End.TheVariants.{Done, BadLine, Usage, ReadFault, NoFreeBlock, Memory, NoDevice, NoScript, ScriptTooLong}
use Rattle.ppq_jobs.specs.ppq_engine.declared.end.Ended.{Ended}
use Rattle.ppq_jobs.specs.ppq_engine.Output.{output_of, load_of, crest_of, TakesWithin}
use Rattle.ppq_jobs.specs.ppq_engine.Loads.{IsLoad, most_of, least_of, begins_limit, FitsWritten}
use Rattle.ppq_jobs.specs.ppq_engine.Refusal.{HasRoom, HasNoRoom}
use Rattle.ppq_jobs.specs.ppq_engine.Ends.{BeganCommands, NoFault}
use Rattle.ppq_jobs.specs.ppq_engine.Work.{work_of}
use Rattle.ppq_cli.specs.Budget.{refusal_for}
use Rattle.ppq_cli.specs.Device.{DeviceShape}
use Rattle.ppq_cli.specs.Outside.{WritesText, IsHigher, OutsideKept, Unreadable}
use Rattle.ppq_cli.specs.Load.{script_kinds}
use Rattle.ppq_cli.specs.Replies.{Files, RefusalIsRight, CompletesAsGiven, RunIsRight, TransfersAreRight, AsksAreRight}
use Rattle.ppq_cli.specs.Transfers.{TransfersWithin}
use Rattle.ppq_cli.specs.Types.{RecordType, type_of}

-- The script that the words name.

-- what the words say, where they have a reading
abbrev pub reading : List (String Global) → Option Reading
reading words = reading_of (texts_of words)

-- the fact holds of what the words say, where they have a reading
abbrev pub OfWords : List (String Global) → (Reading → Type 0) → Type 0
OfWords words P = IfSome (reading words) P

-- the device that they name, and what it has: so many blocks, each of as many bytes as its records, of some width
abbrev pub device_named : Reading → List ℕ
device_named r = r.device

abbrev pub blocks_given : Reading → DeviceShape
blocks_given r = record { blocks = r.given.numbers.blocks; IsSize = λ bytes. (width : ℕ) × (bytes ≡ r.given.numbers.block * width) }

-- the commands of a script of these bytes for so many workers, where these are the files: each that reads one has its length
abbrev pub script_commands : {R : Type 0} → Words R → Files → List ℕ → ℕ → List (Command R)
script_commands words files bytes workers = map (λ n. n.command) (with_sizes files (names_of (script_kinds words bytes workers)) (numbered_of 1 (script_kinds words bytes workers)))

-- the records of its file with this number
abbrev pub script_given : {R : Type 0} → Words R → Files → List ℕ → ℕ → ℕ → List R
script_given words files bytes workers file = records_of words.record_of words.WIDTH (bytes_or_none (files (name_at (names_of (script_kinds words bytes workers)) file)))

-- a fact about a script: about the type of its records, the arguments, the records of its files and its commands
abbrev pub About : Type 1
About = (type : RecordType) → Reading → (ℕ → List type.R) → List (Command type.R) → Type 0

-- the fact holds of a script of these bytes with records of this type, where the library tells
abbrev pub OfBytes : Option Files → RecordType → Reading → List ℕ → About → Type 0
OfBytes told type r bytes P = IfSome told (λ files. P type r (script_given type.words files bytes r.given.numbers.workers) (script_commands type.words files bytes r.given.numbers.workers))

-- the fact holds of the script that the arguments name, with records of the type that its head names, where the library tells and has it
abbrev pub OfFile : Option Files → Reading → About → Type 0
OfFile told r P = IfSome told (λ files. IfSome (files r.script) (λ bytes. OfBytes (Some files) (type_of bytes) r bytes P))

-- the fact holds of the script that the words name, where they have a reading, and the library tells and has it
abbrev pub OfScript : {L : Type 0} → (L → Option Files) → L → List (String Global) → About → Type 0
OfScript told library words P = OfWords words (λ r. OfFile (told library) r P)

-- What is written: by what a sink tells before and now.

-- all that the commands print, in the form that the arguments say
abbrev pub WritesAll : {S : Type 0} → (S → Option (List ℕ)) → S → S → About
WritesAll told before now type r given commands = TakesAll (told before) (told now) (output_of type.words r.form given commands)

-- a prefix of it
abbrev pub WritesPart : {S : Type 0} → (S → Option (List ℕ)) → S → S → About
WritesPart told before now type r given commands = TakesPart (told before) (told now) (output_of type.words r.form given commands)

-- at least what the first commands print, as long as there is room for their load
abbrev pub WritesRoom : {S : Type 0} → (S → Option (List ℕ)) → S → S → About
WritesRoom told before now type r given commands = TakesWithin type.words r.form given (told before) (told now) (sizes_at type.words.WIDTH r) commands

-- just what the commands in front of one of which this holds print
pub record PrintsTo {R : Type 0} (Is : Command R → Type 0) (print : List (Command R) → List ℕ) (before now : Option (List ℕ)) (commands : List (Command R)) : Type 0 where
  pub done : ℕ
  pub command : Command R
  pub here : slice_get commands done ≡ Some command
  pub is : Is command
  pub took : TakesAll before now (print (take done commands))

-- a command `bulk`
abbrev pub ReadsFile : {R : Type 0} → Command R → Type 0
ReadsFile command = (file : ℕ) × ((size : ℕ) × (command ≡ Bulk file size))

-- where a read failed: nothing, or just what the commands in front of a `bulk` print
abbrev pub WritesToFile : {S : Type 0} → (S → Option (List ℕ)) → S → S → About
WritesToFile told before now type r given commands = (told now ≡ told before) ⊎ PrintsTo ReadsFile (output_of type.words r.form given) (told before) (told now) commands

-- where memory was wanting: nothing, or just what the commands in front of a `bulk`, `gen`, `bulk_begin` or `limit_begin` print
abbrev pub WritesToLoad : {S : Type 0} → (S → Option (List ℕ)) → S → S → About
WritesToLoad told before now type r given commands = (told now ≡ told before) ⊎ PrintsTo IsLoad (output_of type.words r.form given) (told before) (told now) commands

-- if the script was run as the library gave it, all of that holds of what the sink took and of the blocks
abbrev pub IfRan :
    {K L O S : Type 0} → List (String Global) → (K → Type 0) → K → (L → Option Files) → L → (L → Reply → Type 0) → L
    → (O → Option (List ℕ)) → O → O → (S → Shown) → Ended S → Type 0
IfRan words tells rack told library replied later sink before now shown ended = OfWords words (λ r. RunIsRight (tells rack) (told library) (replied later) r (sink before) (sink now) (map shown ended.blocks.items) ended.end)

-- a number of a script: of the type of its records, the records of its files and its commands
abbrev pub Measure : Type 1
Measure = (type : RecordType) → (ℕ → List type.R) → List (Command type.R) → ℕ

-- its load, the greatest count of records, and its crest, the greatest multiset outside sessions
abbrev pub load_by : Measure
load_by type given commands = load_of type.words given commands

abbrev pub crest_by : Measure
crest_by type given commands = crest_of type.words given commands

-- bounds of them by its commands alone
abbrev pub most_by : Measure
most_by type given commands = most_of type.words commands

abbrev pub least_by : Measure
least_by type given commands = least_of type.words commands

-- the device was used: so many records are no more than the budget and a block of records for each write of these blocks
abbrev pub UsesDevice : {S : Type 0} → Measure → (S → Shown) → Ended S → About
UsesDevice measure shown ended type r given commands = FitsWritten (measure type given commands) (sizes_at type.words.WIDTH r) (map shown ended.blocks.items)

-- these blocks have the bytes of a block of the script's records, and their transfers are within the bound of its work: the records that its commands
-- push, the heaps that these fill, and the sessions that begin
abbrev pub TransfersBounded : {S : Type 0} → (S → Shown) → Ended S → About
TransfersBounded shown ended type r given commands = TransfersWithin (sizes_at type.words.WIDTH r) type.words.WIDTH (work_of type.words (sizes_at type.words.WIDTH r) commands) (map shown ended.blocks.items)

-- the same by the commands of the script that the library gave, whether it tells or not
abbrev pub AreTransfersRight : {L S : Type 0} → List (String Global) → (L → Option Files) → L → (L → Reply → Type 0) → L → (S → Shown) → Ended S → Type 0
AreTransfersRight words told library replied later shown ended = OfWords words (λ r. TransfersAreRight (told library) (replied later) r (map shown ended.blocks.items))

-- When each outcome comes.

-- the answer that refuses a script of which nothing else is wrong, and none to another: that the budget is too small
abbrev pub refusal_of_budget : {R : Type 0} → Words R → Reading → Option End
refusal_of_budget words r = refusal_for words.WIDTH r.given

-- before that, its first bad line
abbrev pub refusal_of_bad : {R : Type 0} → Words R → Option ℕ → Reading → Option End
refusal_of_bad words None r = refusal_of_budget words r
refusal_of_bad words (Some line) r = Some (BadLine line)

-- by its bytes: the line is bad, or names a file that cannot be used
abbrev pub refusal_of_bytes : {R : Type 0} → Words R → Files → List ℕ → Reading → Option End
refusal_of_bytes words files bytes r = refusal_of_bad words (first_bad_by (is_usable words files) 1 (script_kinds words bytes r.given.numbers.workers)) r

-- The answer that refuses a script before its device is made, and none to another: first that it is not there, then that it is too
-- long, then its first line that is bad or names a file that cannot be used, then that the budget is too small
abbrev pub refusal_of_file : Files → Option (List ℕ) → Reading → Option End
refusal_of_file files None r = Some NoScript
refusal_of_file files (Some bytes) r = if nat_lt 1048576 (length bytes) then Some ScriptTooLong else refusal_of_bytes (type_of bytes).words files bytes r

-- before all of them, that the words have no reading
abbrev pub refusal_of : Option Reading → Files → Option End
refusal_of None files = Some Usage
refusal_of (Some r) files = refusal_of_file files (files r.script) r

-- the script was run, or its device could not be made
abbrev pub IsTried : End → Type 0
IsTried end = BeganCommands end ⊎ (end ≡ NoDevice)

-- want of memory or a failed read
abbrev pub IsGivenUp : End → Type 0
IsGivenUp end = (end ≡ Memory) ⊎ (end ≡ ReadFault)

-- the refusal, where there is one, and only then; or it gave up
abbrev pub IsAnswer : Option End → End → Type 0
IsAnswer refusal end = MatchOption refusal (IsTried end) (λ e. end ≡ e) ⊎ IsGivenUp end

-- the same of a script that was loaded: or memory was wanting
abbrev pub IsTriedOrRefusal : Option End → End → Type 0
IsTriedOrRefusal refusal end = MatchOption refusal (IsTried end) (λ e. end ≡ e) ⊎ (end ≡ Memory)

-- the device has too few blocks for so many records, which are above one heap, unless a limit session begins
abbrev pub IsTooLarge : Measure → About
IsTooLarge measure type r given commands = HasNoRoom (sizes_at type.words.WIDTH r) (begins_limit commands) (measure type given commands)

-- the contrary: they are no more than one heap and no limit session begins, or the device has blocks enough for them
abbrev pub HasRoomFor : Measure → About
HasRoomFor measure type r given commands = HasRoom (sizes_at type.words.WIDTH r) (begins_limit commands) (measure type given commands)

-- Completeness.

-- a script of these bytes that is not refused, and for which there is room, is done, or memory was wanting
abbrev pub EndsWell : Measure → Reading → Files → List ℕ → End → Type 0
EndsWell measure r files bytes end = refusal_of_file files (Some bytes) r ≡ None → OfBytes (Some files) (type_of bytes) r bytes (HasRoomFor measure) → (end ≡ Done) ⊎ (end ≡ Memory)

-- the same of the script that the words name, where the library tells and has it
abbrev pub Completes : {L : Type 0} → Measure → (L → Option Files) → L → List (String Global) → End → Type 0
Completes measure told library words end = OfWords words (λ r. IfSome (told library) (λ files. IfSome (files r.script) (λ bytes. EndsWell measure r files bytes end)))

-- the fact holds of what the script that the words name prints, in the form that they say, where blocks and library tell and the library has it
abbrev pub OfOutput : {L : Type 0} → Type 0 → (L → Option Files) → L → List (String Global) → (List ℕ → Type 0) → Type 0
OfOutput tells told library words P = tells → OfScript told library words (λ type r given commands. P (output_of type.words r.form given commands))

-- The clauses of `run_words` as one, for an outcome with its blocks: those that speak of the outside alone are in `WritesText`, `OutsideKept` and `Unreadable`,
-- and each other one stands here under its name.
pub record RunsWords
    {L K O S : Type 0} (library : LibraryShows L) (rack : RackShows K S) (sink : SinkShows O) (shown : S → Shown) (words : List (String Global))
    (old_library new_library : L) (old_rack new_rack : K) (old_out new_out : O) (ended : Ended S) : Type 0 where
  pub written : WritesText (OfOutput (rack.tells old_rack) library.told old_library words) (sink.told old_out) (sink.told new_out) ended.end
  pub room : ended.end ≡ NoFreeBlock → rack.tells old_rack → OfScript library.told old_library words (WritesRoom sink.told old_out new_out)
  pub to_file : ended.end ≡ ReadFault → rack.tells old_rack → OfScript library.told old_library words (WritesToFile sink.told old_out new_out)
  pub to_load : ended.end ≡ Memory → rack.tells old_rack → OfScript library.told old_library words (WritesToLoad sink.told old_out new_out)
  pub ran : IfRan words rack.tells old_rack library.told old_library library.replied new_library sink.told old_out new_out shown ended
  pub used : ended.end ≡ Done → rack.tells old_rack → OfScript library.told old_library words (UsesDevice crest_by shown ended)
  pub used_any : ended.end ≡ Done → OfScript library.told old_library words (UsesDevice least_by shown ended)
  pub transfers : OfScript library.told old_library words (TransfersBounded shown ended)
  pub transfers_any : AreTransfersRight words library.told old_library library.replied new_library shown ended
  pub reads : OfWords words (λ r. AsksAreRight (library.told old_library) (library.replied old_library) (library.replied new_library) r ended.end)
  pub outside : OutsideKept IsHigher library rack sink shown (reading words) device_named blocks_given old_library new_library old_rack new_rack old_out new_out ended
  pub unreadable : Unreadable (reading words) (may_run (texts_of words)) old_library new_library old_rack new_rack old_out new_out ended
  pub answer : IfSome (library.told old_library) (λ files. IsAnswer (refusal_of (reading words) files) ended.end)
  pub refused : OfWords words (λ r. RefusalIsRight (library.told old_library) (library.replied new_library) r ended.end)
  pub above : ended.end ≡ NoFreeBlock → rack.tells old_rack → OfScript library.told old_library words (IsTooLarge load_by)
  pub above_any : ended.end ≡ NoFreeBlock → OfScript library.told old_library words (IsTooLarge most_by)
  pub complete : rack.tells old_rack → NoFault ended.end → Completes load_by library.told old_library words ended.end
  pub complete_any : NoFault ended.end → Completes most_by library.told old_library words ended.end
  pub complete_given : NoFault ended.end → OfWords words (λ r. CompletesAsGiven (library.told old_library) (library.replied new_library) r ended.end)
