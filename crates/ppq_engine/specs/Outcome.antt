-- What the end of a run says of its output, its blocks and its faults.
use Rattle.std.specs.Prelude.{◌≡◌, ◌⊎◌, ℕ, List, take, slice_get, Option, Some}
use Rattle.ppq_script.specs.Words.{Words}
use Rattle.ppq_script.specs.ppq_outside.Shown.{Shown, AllTell}
use Rattle.ppq_script.specs.ppq_outside.Told.{Reply, TakesAll, TakesPart, Rose}
use Rattle.ppq_load.specs.ppq_budget.Sizes.{Numbers}
use Rattle.ppq_load.specs.ppq_array.Kept.{HasFailed, AreQuiet}
use Rattle.ppq_script.specs.declared.form.Form.{Form}
use Rattle.ppq_script.specs.declared.command.Command.{Command}
use Rattle.ppq_script.specs.declared.command.Command.TheVariants.{Bulk}
use Rattle.ppq_script.specs.Reading.{Reading, command_list}
use Rattle.ppq_load.specs.Refusal.{HasNoRoom}
use Rattle.ppq_engine.specs.Loads.{IsLoad, most_of, least_of, begins_limit, FitsWritten}
use Rattle.ppq_engine.specs.Output.{AreFilesOf, given_of, output_of, load_of, crest_of, TakesWithin}
use Rattle.ppq_engine.specs.Running.{HasChanged, queue_end}
use Rattle.ppq_engine.specs.Ends.{class_of, IfFile}
use Rattle.ppq_engine.specs.declared.end.End.{End}
use Rattle.ppq_engine.specs.declared.end.End.TheVariants.{Done, ReadFault, WriteFault, DeviceFault, NoFreeBlock, Memory, FileChanged}
use Rattle.ppq_engine.specs.declared.stop.Stop.{Stop}
use Rattle.ppq_engine.specs.declared.stop.Stop.TheVariants as stop

-- the sink took the output of the commands before one that reads a file
pub record TakesBeforeFile {R : Type 0} (w : Words R) (form : Form) (told : Option (List ℕ → Option (List ℕ))) (script : Reading R) (first : List Shown) (before now : Option (List ℕ)) : Type 0 where
  pub done : ℕ
  pub file : ℕ
  pub size : ℕ
  pub here : slice_get (command_list script) done ≡ Some (Bulk file size)
  pub took :
      AllTell first → (files : List ℕ → Option (List ℕ)) → AreFilesOf told script files
      → TakesAll before now (output_of w form (given_of w files script) (take done (command_list script)))

-- the sink took the output of the commands before one that adds many records
pub record TakesBeforeLoad {R : Type 0} (w : Words R) (form : Form) (told : Option (List ℕ → Option (List ℕ))) (script : Reading R) (first : List Shown) (before now : Option (List ℕ)) : Type 0 where
  pub done : ℕ
  pub command : Command R
  pub here : slice_get (command_list script) done ≡ Some command
  pub loads : IsLoad command
  pub took :
      AllTell first → (files : List ℕ → Option (List ℕ)) → AreFilesOf told script files
      → TakesAll before now (output_of w form (given_of w files script) (take done (command_list script)))

-- where a file could not be read, or had changed, the sink took the output of the commands before one that reads a file
abbrev pub FaultBeforeFile : {R : Type 0} → Words R → Form → Option (List ℕ → Option (List ℕ)) → Reading R → List Shown → Option (List ℕ) → Option (List ℕ) → End → Type 0
FaultBeforeFile w form told script first before now end = IfFile (class_of end) (TakesBeforeFile w form told script first before now)

-- the sink took all output, and the greatest multiset fits into the budget and what was written
pub record IsWhole {R : Type 0} (w : Words R) (form : Form) (given : ℕ → List R) (script : Reading R) (before now : Option (List ℕ)) (sizes : Numbers) (slots : List Shown) : Type 0 where
  pub took : TakesAll before now (output_of w form given (command_list script))
  pub crest : FitsWritten (crest_of w given (command_list script)) sizes slots

-- the sink took what there was room for, and the load has none
pub record IsFull {R : Type 0} (w : Words R) (form : Form) (given : ℕ → List R) (script : Reading R) (before now : Option (List ℕ)) (sizes : Numbers) : Type 0 where
  pub within : TakesWithin w form given before now sizes (command_list script)
  pub above : HasNoRoom sizes (begins_limit (command_list script)) (load_of w given (command_list script))

-- neither the count of the sink nor that of the library rose
pub record CountsStay (sink sink_now library library_now : ℕ) : Type 0 where
  pub sink_same : sink_now ≡ sink
  pub library_same : library_now ≡ library

-- what an end says: of the files that the library tells, what it replied, the script, the blocks first and now, the output before and now,
-- and the counts of sink and library
abbrev pub EndSays : {R : Type 0} → Words R → Form → Option (List ℕ → Option (List ℕ)) → (Reply → Type 0) → Reading R → List Shown → List Shown → Numbers → Option (List ℕ) → Option (List ℕ) → ℕ → ℕ → ℕ → ℕ → End → Type 0
EndSays w form told replied script first slots sizes before now sink sink_now library library_now Done =
    (AllTell first → (files : List ℕ → Option (List ℕ)) → AreFilesOf told script files → IsWhole w form (given_of w files script) script before now sizes slots)
    × FitsWritten (least_of w (command_list script)) sizes slots
    × CountsStay sink sink_now library library_now
    × AreQuiet first slots
EndSays w form told replied script first slots sizes before now sink sink_now library library_now ReadFault = Rose library library_now × (sink_now ≡ sink)
EndSays w form told replied script first slots sizes before now sink sink_now library library_now WriteFault = Rose sink sink_now
EndSays w form told replied script first slots sizes before now sink sink_now library library_now (DeviceFault number) = HasFailed number slots × CountsStay sink sink_now library library_now
EndSays w form told replied script first slots sizes before now sink sink_now library library_now NoFreeBlock =
    (AllTell first → (files : List ℕ → Option (List ℕ)) → AreFilesOf told script files → IsFull w form (given_of w files script) script before now sizes)
    × HasNoRoom sizes (begins_limit (command_list script)) (most_of w (command_list script))
    × CountsStay sink sink_now library library_now
    × AreQuiet first slots
EndSays w form told replied script first slots sizes before now sink sink_now library library_now Memory =
    TakesBeforeLoad w form told script first before now × CountsStay sink sink_now library library_now
EndSays w form told replied script first slots sizes before now sink sink_now library library_now (FileChanged line said got) =
    HasChanged told replied script line said got × CountsStay sink sink_now library library_now
EndSays w form told replied script first slots sizes before now sink sink_now library library_now _ = ⊥

-- what was gathered was put: all of it, and the end is that of the stop; or a part, and the sink failed
abbrev pub PutsRest : Option (List ℕ) → Option (List ℕ) → ℕ → ℕ → List ℕ → End → End → Type 0
PutsRest before now sink sink_now had stopped end =
    (TakesAll before now had × (end ≡ stopped) × (sink_now ≡ sink)) ⊎ (TakesPart before now had × (end ≡ WriteFault) × Rose sink sink_now)

-- the same where it was not the sink that stopped, and nothing was put where it was
abbrev pub PutsStopped : Option (List ℕ) → Option (List ℕ) → ℕ → ℕ → List ℕ → End → Stop → Type 0
PutsStopped before now sink sink_now had end stop.Sink = (now ≡ before) × (end ≡ WriteFault) × (sink_now ≡ sink)
PutsStopped before now sink sink_now had end (stop.Queue fault) = PutsRest before now sink sink_now had (queue_end fault) end
PutsStopped before now sink sink_now had end stop.Read = PutsRest before now sink sink_now had ReadFault end
PutsStopped before now sink sink_now had end stop.Memory = PutsRest before now sink sink_now had Memory end
PutsStopped before now sink sink_now had end (stop.Changed line said got) = PutsRest before now sink sink_now had (FileChanged line said got) end
