-- What a library replied of a file, and how a run ends for it. It is said of every library, also of one that does not tell.
use Rattle.std.specs.Prelude.{◌≡◌, ◌⊎◌, ℕ, ◌≤◌, List, [], take, slice_get, Option, Some, None, IfSome, IsTrue, ⊤}
use Rattle.std.specs.List.{AllZip}
use Rattle.ppq_words.specs.ppq_outside.Shown.{Shown}
use Rattle.ppq_words.specs.ppq_outside.Told.{Reply, RepliesOnly, TakesAll, TakesPart}
use Rattle.ppq_files.specs.Reading.{IsOn}
use Rattle.ppq_files.specs.Whole.{IsLoadedAs, WholeRefusalIsRight}
use Rattle.ppq_files.specs.declared.whole.WholeFault.{WholeFault}
use Rattle.ppq_words.specs.ppq_budget.Sizes.{Numbers, fixed_of}
use Rattle.ppq_words.specs.ppq_script.Words.{Words}
use Rattle.ppq_words.specs.ppq_script.declared.command.Command.{Command}
use Rattle.ppq_words.specs.ppq_script.declared.command.Command.TheVariants.{Bulk}
use Rattle.ppq_words.specs.ppq_script.Lines.{numbered_of, names_of, first_bad, first_bad_by}
use Rattle.ppq_words.specs.ppq_script.Files.{is_usable, IsBadLine, IsLength}
use Rattle.ppq_words.specs.ppq_script.Checking.{IsAsked, IsKeptLength, with_sizes}
use Rattle.ppq_words.specs.ppq_script.declared.check.CheckFault.{CheckFault}
use Rattle.ppq_words.specs.ppq_script.declared.check.CheckFault.TheVariants as check
use Rattle.ppq_words.specs.ppq_script.declared.form.Form.{Form}
use Rattle.ppq_words.specs.ppq_script.Reading.{Reading, command_list}
use Rattle.ppq_words.specs.Reading.{Reading as Arguments, sizes_at}
use Rattle.ppq_jobs.specs.ppq_engine.Ends.{Class, Finished, Refused, Unmade, Unread, Broken, Shrunk, Spoiled, Full, GaveUp, class_of, IsRefusal, IfFile, IsCompleted}
use Rattle.ppq_jobs.specs.ppq_engine.Files.{IsReadInScript}
use Rattle.ppq_jobs.specs.ppq_engine.Loads.{most_of, least_of, begins_limit, FitsWritten, IsLoad}
use Rattle.ppq_jobs.specs.ppq_engine.Output.{AreFilesOf, given_of, output_of, load_of, crest_of, TakesWithin}
use Rattle.ppq_jobs.specs.ppq_engine.Refusal.{HasRoom, HasNoRoom}
use Rattle.ppq_jobs.specs.ppq_engine.Running.{HasChanged}
use Rattle.ppq_jobs.specs.ppq_engine.Work.{work_of}
use Rattle.ppq_jobs.specs.ppq_engine.declared.end.End.{End}
use Rattle.ppq_jobs.specs.ppq_engine.declared.end.End.TheVariants.{BadLine, BudgetTooSmall, Memory, FileChanged, NoDevice, BadEdge}
use Rattle.ppq_cli.specs.Budget.{need_for, IsBelowNeed}
use Rattle.ppq_cli.specs.Device.{IsSurelyRun}
use Rattle.ppq_cli.specs.Load.{check_end, load_end, script_kinds}
use Rattle.ppq_cli.specs.Transfers.{TransfersWithin}
use Rattle.ppq_cli.specs.Types.{type_of}

-- the files that a library tells: the bytes under each name, none where there is no file
abbrev pub Files : Type 0
Files = List ℕ → Option (List ℕ)

-- the fact holds of bytes as which the library gave this file
abbrev pub OfLoaded : Option Files → (Reply → Type 0) → List ℕ → (List ℕ → Type 0) → Type 0
OfLoaded told replied name P = (bytes : List ℕ) × (IsLoadedAs told replied name 1048576 bytes × P bytes)

-- the script was not loaded, and why rests on what the library replied of it
abbrev pub IsUnloaded : Option Files → (Reply → Type 0) → List ℕ → End → Type 0
IsUnloaded told replied name end = (fault : WholeFault) × ((end ≡ load_end fault) × WholeRefusalIsRight told replied name 1048576 fault)

-- A script that was read from these bytes for so many workers and has no bad line: its commands are those of the bytes, with the lengths
-- that the library said of their files.
pub record IsScript {R : Type 0} (words : Words R) (told : Option Files) (replied : Reply → Type 0) (bytes : List ℕ) (workers : ℕ) (script : Reading R) : Type 0 where
  pub good : first_bad 1 (script_kinds words bytes workers) ≡ None
  pub names : script.names ≡ names_of (script_kinds words bytes workers)
  pub asked : AllZip (IsAsked words replied (names_of (script_kinds words bytes workers))) (numbered_of 1 (script_kinds words bytes workers)) script.commands
  pub usable : IfSome told (λ files. first_bad_by (is_usable words files) 1 (script_kinds words bytes workers) ≡ None)
  pub lengths : IfSome told (λ files. script.commands ≡ with_sizes files (names_of (script_kinds words bytes workers)) (numbered_of 1 (script_kinds words bytes workers)))
  pub ready : IsTrue script.checked
  pub same_workers : script.workers ≡ workers

-- why such a script was refused: by the library's replies this is its first line that is bad or names a file that cannot be used, and so
-- it is by the files that the library tells
pub record HasBadLine {R : Type 0} (words : Words R) (told : Option Files) (replied : Reply → Type 0) (bytes : List ℕ) (workers line : ℕ) : Type 0 where
  pub replies : IsBadLine words replied 1 (script_kinds words bytes workers) line
  pub files : IfSome told (λ files. first_bad_by (is_usable words files) 1 (script_kinds words bytes workers) ≡ Some line)

abbrev pub IsRefused : {R : Type 0} → Words R → Option Files → (Reply → Type 0) → List ℕ → ℕ → CheckFault → Type 0
IsRefused words told replied bytes workers (check.BadLine line) = HasBadLine words told replied bytes workers line
IsRefused words told replied bytes workers check.ReadFault = ⊤
IsRefused words told replied bytes workers check.Memory = ⊤

-- the fixed part of the budget for such records, in the unit in which the budget is given
abbrev pub need_of : {R : Type 0} → Words R → Arguments → ℕ
need_of words r = need_for words.WIDTH r.given

-- the budget is below its fixed part, which is so much
abbrev pub IsTooSmall : {R : Type 0} → Words R → Arguments → ℕ → Type 0
IsTooSmall words r need = IsBelowNeed words.WIDTH r.given need

-- What follows is of a script of these bytes, by what the library tells and replied, and by the arguments.

-- the fact holds of the script as it was read
abbrev pub OfGood : {R : Type 0} → Words R → Option Files → (Reply → Type 0) → Arguments → List ℕ → (Reading R → Type 0) → Type 0
OfGood {R} words told replied r bytes P = (script : Reading R) × (IsScript words told replied bytes r.given.numbers.workers script × P script)

-- the same, and the budget is no less than its fixed part
abbrev pub OfRun : {R : Type 0} → Words R → Option Files → (Reply → Type 0) → Arguments → List ℕ → (Reading R → Type 0) → Type 0
OfRun words told replied r bytes P = (fixed_of (sizes_at words.WIDTH r) ≤ (sizes_at words.WIDTH r).memory) × OfGood words told replied r bytes P

-- the end is one that the check of a script's files may come to, where it does not find all of them
abbrev pub IsOfCheck : End → Type 0
IsOfCheck end = (fault : CheckFault) × (end ≡ check_end fault)

-- a reply on the file of a command: the length that the command keeps of it, or one to a read that ends at or before that length
abbrev pub IsOnFile : {R : Type 0} → Reading R → Reply → Type 0
IsOnFile script reply = IsKeptLength script reply ⊎ IsReadInScript script reply

-- since then it replied on the script's own file, and on the files of the commands; or the check did not find all files, and it replied on
-- the script's own file, and on lengths of any
abbrev pub AsksOf : {R : Type 0} → Words R → Option Files → (Reply → Type 0) → (Reply → Type 0) → Arguments → List ℕ → End → Type 0
AsksOf words told before now r bytes end =
    (IsOfCheck end × RepliesOnly before now (λ reply. IsOn now r.script reply ⊎ IsLength reply))
    ⊎ OfGood words told now r bytes (λ script. RepliesOnly before now (λ reply. IsOn now r.script reply ⊎ IsOnFile script reply))

-- since then the library replied on the script's file alone; or it gave the script as some bytes, and so it is with the records that its
-- head names
abbrev pub AsksAreRight : Option Files → (Reply → Type 0) → (Reply → Type 0) → Arguments → End → Type 0
AsksAreRight told before now r end = RepliesOnly before now (IsOn now r.script) ⊎ OfLoaded told now r.script (λ bytes. AsksOf (type_of bytes).words told before now r bytes end)

-- if the end refuses the script, that rests on what the library replied of its files; it is no refusal of another kind
abbrev pub RefusalOf : {R : Type 0} → Words R → Option Files → (Reply → Type 0) → Arguments → List ℕ → End → Type 0
RefusalOf words told replied r bytes (BadLine line) = IsBadLine words replied 1 (script_kinds words bytes r.given.numbers.workers) line
RefusalOf words told replied r bytes (BudgetTooSmall need) = IsTooSmall words r need × OfGood words told replied r bytes (λ script. ⊤)
RefusalOf words told replied r bytes (FileChanged line said got) = OfRun words told replied r bytes (λ script. HasChanged told replied script line said got)
RefusalOf words told replied r bytes NoDevice = OfRun words told replied r bytes (λ script. ⊤)
RefusalOf words told replied r bytes (BadEdge at) = ⊥
RefusalOf words told replied r bytes end = ¬ IsRefusal (class_of end)

-- the script was not loaded; or it was, as some bytes, and a refusal of it is right for the records that its head names
abbrev pub RefusalIsRight : Option Files → (Reply → Type 0) → Arguments → End → Type 0
RefusalIsRight told replied r end = IsUnloaded told replied r.script end ⊎ OfLoaded told replied r.script (λ bytes. RefusalOf (type_of bytes).words told replied r bytes end)

-- an end that names no fault is a refusal, which is right, or want of memory; or the script was run, and if there is room for the greatest size that
-- its commands can lead to, it was done, or memory was wanting, or a file had changed and the library does not tell
abbrev pub CompletesOf : {R : Type 0} → Words R → Option Files → (Reply → Type 0) → Arguments → List ℕ → End → Type 0
CompletesOf words told replied r bytes end =
    (IsRefusal (class_of end) × RefusalOf words told replied r bytes end)
    ⊎ ((end ≡ Memory) ⊎ OfRun words told replied r bytes (λ script. HasRoom (sizes_at words.WIDTH r) (begins_limit (command_list script)) (most_of words (command_list script)) → IsCompleted told end))

-- the script was not loaded; or the library gave it as some bytes, and so it is with the records that its head names
abbrev pub CompletesAsGiven : Option Files → (Reply → Type 0) → Arguments → End → Type 0
CompletesAsGiven told replied r end = IsUnloaded told replied r.script end ⊎ OfLoaded told replied r.script (λ bytes. CompletesOf (type_of bytes).words told replied r bytes end)

-- What follows is of a script that was run: where blocks and sink tell, and for all files that the library tells, or any where the
-- script reads none.

-- the fact holds of the records of its files and its commands
abbrev pub ForFiles : {R : Type 0} → Words R → Type 0 → Option Files → Reading R → ((ℕ → List R) → List (Command R) → Type 0) → Type 0
ForFiles words tells told script P = tells → (files : Files) → AreFilesOf told script files → P (given_of words files script) (command_list script)

-- The sink took all of the output. The device was used: outside sessions the multiset was never greater than the budget and a block of records for each write.
pub record HasRunWhole {R : Type 0} (words : Words R) (form : Form) (tells : Type 0) (told : Option Files) (sizes : Numbers) (before now : Option (List ℕ)) (blocks : List Shown) (script : Reading R) : Type 0 where
  pub took : ForFiles words tells told script (λ given commands. TakesAll before now (output_of words form given commands))
  pub crest : ForFiles words tells told script (λ given commands. FitsWritten (crest_of words given commands) sizes blocks)
  pub least : FitsWritten (least_of words (command_list script)) sizes blocks

-- the sink took a prefix of the output
abbrev pub HasRunPart : {R : Type 0} → Words R → Form → Type 0 → Option Files → Option (List ℕ) → Option (List ℕ) → Reading R → Type 0
HasRunPart words form tells told before now script = ForFiles words tells told script (λ given commands. TakesPart before now (output_of words form given commands))

-- the device has too few blocks for the load, which is above one heap, unless a limit session begins; the sink took what is printed before
-- that, and no more than a prefix of the output
pub record HasRunFull {R : Type 0} (words : Words R) (form : Form) (tells : Type 0) (told : Option Files) (sizes : Numbers) (before now : Option (List ℕ)) (script : Reading R) : Type 0 where
  pub part : HasRunPart words form tells told before now script
  pub within : ForFiles words tells told script (λ given commands. TakesWithin words form given before now sizes commands)
  pub above : ForFiles words tells told script (λ given commands. HasNoRoom sizes (begins_limit commands) (load_of words given commands))
  pub above_any : HasNoRoom sizes (begins_limit (command_list script)) (most_of words (command_list script))

-- the sink took the output of the commands before one that reads a file
pub record HasRunToFile {R : Type 0} (words : Words R) (form : Form) (tells : Type 0) (told : Option Files) (before now : Option (List ℕ)) (script : Reading R) : Type 0 where
  pub done : ℕ
  pub file : ℕ
  pub size : ℕ
  pub here : slice_get (command_list script) done ≡ Some (Bulk file size)
  pub took : ForFiles words tells told script (λ given commands. TakesAll before now (output_of words form given (take done commands)))

-- the sink took the output of the commands before one that begins a session: `bulk`, `gen`, `bulk_begin` or `limit_begin`
pub record HasRunToLoad {R : Type 0} (words : Words R) (form : Form) (tells : Type 0) (told : Option Files) (before now : Option (List ℕ)) (script : Reading R) : Type 0 where
  pub done : ℕ
  pub command : Command R
  pub here : slice_get (command_list script) done ≡ Some command
  pub loads : IsLoad command
  pub took : ForFiles words tells told script (λ given commands. TakesAll before now (output_of words form given (take done commands)))

-- where memory was wanting: nothing was written, or the output of the commands before one that begins a session
abbrev pub RanToLoad : {R : Type 0} → Words R → Form → Type 0 → Option Files → Option (List ℕ) → Option (List ℕ) → Reading R → Type 0
RanToLoad words form tells told before now script = (now ≡ before) ⊎ HasRunToLoad words form tells told before now script

-- where a file could not be read, or had changed, the sink took the output of the commands before one that reads a file
abbrev pub FaultToFile : {R : Type 0} → Words R → Form → Type 0 → Option Files → Option (List ℕ) → Option (List ℕ) → Reading R → End → Type 0
FaultToFile words form tells told before now script end = IfFile (class_of end) (HasRunToFile words form tells told before now script)

-- the class of ends is that of a run of the script: where a file could not be read, or had changed, it reads one and was run as far as that;
-- where memory was wanting it begins a session and was run as far as that
abbrev pub RunBy : {R : Type 0} → Words R → Type 0 → Option Files → (Reply → Type 0) → Arguments → List ℕ → Option (List ℕ) → Option (List ℕ) → List Shown → Class → Type 0
RunBy words tells told replied r bytes before now blocks Finished = OfRun words told replied r bytes (HasRunWhole words r.form tells told (sizes_at words.WIDTH r) before now blocks)
RunBy words tells told replied r bytes before now blocks Refused = ⊥
RunBy words tells told replied r bytes before now blocks Unmade = ⊥
RunBy words tells told replied r bytes before now blocks Unread = OfRun words told replied r bytes (HasRunToFile words r.form tells told before now)
RunBy words tells told replied r bytes before now blocks Broken = OfRun words told replied r bytes (HasRunPart words r.form tells told before now)
RunBy words tells told replied r bytes before now blocks Shrunk = OfRun words told replied r bytes (HasRunToFile words r.form tells told before now)
RunBy words tells told replied r bytes before now blocks Spoiled = ⊥
RunBy words tells told replied r bytes before now blocks Full = OfRun words told replied r bytes (HasRunFull words r.form tells told (sizes_at words.WIDTH r) before now)
RunBy words tells told replied r bytes before now blocks GaveUp = OfGood words told replied r bytes (HasRunToLoad words r.form tells told before now)

-- the end is that of such a run
abbrev pub RunOf : {R : Type 0} → Words R → Type 0 → Option Files → (Reply → Type 0) → Arguments → List ℕ → Option (List ℕ) → Option (List ℕ) → List Shown → End → Type 0
RunOf words tells told replied r bytes before now blocks end = RunBy words tells told replied r bytes before now blocks (class_of end)

-- nothing was written, and the end is not one that comes of a run alone
pub record WroteNothing (before now : Option (List ℕ)) (end : End) : Type 0 where
  pub maybe : IsSurelyRun end → ⊥
  pub same : now ≡ before

-- nothing was written; or the library gave the script as some bytes, and it was run over the records that its head names
abbrev pub RunIsRight : Type 0 → Option Files → (Reply → Type 0) → Arguments → Option (List ℕ) → Option (List ℕ) → List Shown → End → Type 0
RunIsRight tells told replied r before now blocks end =
    WroteNothing before now end ⊎ OfLoaded told replied r.script (λ bytes. RunOf (type_of bytes).words tells told replied r bytes before now blocks end)

-- no block comes back; or the script was read, and the transfers of these blocks are within the bound of its work
abbrev pub TransfersOf : {R : Type 0} → Words R → Option Files → (Reply → Type 0) → Arguments → List ℕ → List Shown → Type 0
TransfersOf words told replied r bytes blocks =
    (blocks ≡ []) ⊎ OfGood words told replied r bytes (λ script. TransfersWithin (sizes_at words.WIDTH r) words.WIDTH (work_of words (sizes_at words.WIDTH r) (command_list script)) blocks)

-- no block comes back; or the library gave the script as some bytes, and so it is with the records that its head names
abbrev pub TransfersAreRight : Option Files → (Reply → Type 0) → Arguments → List Shown → Type 0
TransfersAreRight told replied r blocks = (blocks ≡ []) ⊎ OfLoaded told replied r.script (λ bytes. TransfersOf (type_of bytes).words told replied r bytes blocks)
