-- Reads of files that a script names, and why a load stopped.
use Rattle.std.specs.Prelude.{◌≡◌, ℕ, List, slice_get, Option, Some, Result, Ok, Err, ⊤}
use Rattle.ppq_script.specs.ppq_outside.Told.{Reply}
use Rattle.ppq_script.specs.declared.command.Command.TheVariants.{Bulk}
use Rattle.ppq_script.specs.Files.{name_at}
use Rattle.ppq_script.specs.Reading.{Reading, command_list}
use Rattle.ppq_load.specs.ppq_files.Reading.{IsReadWithin}
use Rattle.ppq_load.specs.ppq_files.Filling.{HasEndedEarly}
use Rattle.ppq_load.specs.ppq_array.declared.store_fault.StoreFault.TheVariants as queue_fault
use Rattle.ppq_load.specs.ppq_session.declared.fault.BeginFault.{BeginFault}
use Rattle.ppq_load.specs.ppq_session.declared.fault.BeginFault.TheVariants as begin
use Rattle.ppq_load.specs.declared.fault.LoadFault.{LoadFault}
use Rattle.ppq_load.specs.declared.fault.LoadFault.TheVariants as load
use Rattle.ppq_engine.specs.declared.stop.Stop.{Stop}
use Rattle.ppq_engine.specs.declared.stop.Stop.TheVariants as stop

-- a reply to a read of a file that a command of the script names, which ends at or before the length that the command keeps
pub record IsReadInScript {R : Type 0} (script : Reading R) (reply : Reply) : Type 0 where
  pub at : ℕ
  pub file : ℕ
  pub said : ℕ
  pub here : slice_get (command_list script) at ≡ Some (Bulk file said)
  pub within : IsReadWithin (name_at script.names file) said reply

-- a fault of a load as a stop, for the command on a line, whose file has so many bytes
abbrev pub load_stop : ℕ → ℕ → LoadFault → Stop
load_stop line said (load.Queue fault) = stop.Queue fault
load_stop line said load.Read = stop.Read
load_stop line said load.Memory = stop.Memory
load_stop line said (load.Ended got) = stop.Changed line said got

-- the same of what a load answered
abbrev pub load_result : {T : Type 0} → ℕ → ℕ → Result T LoadFault → Result T Stop
load_result line said (Ok value) = Ok value
load_result line said (Err fault) = Err (load_stop line said fault)

-- why a session did not begin, as a stop
abbrev pub begin_stop : BeginFault → Stop
begin_stop begin.Memory = stop.Memory
begin_stop begin.NoFreeBlock = stop.Queue queue_fault.NoFreeBlock
begin_stop (begin.Device number) = stop.Queue (queue_fault.Device number)

-- it was not the sink that stopped
abbrev pub IsByFile : Stop → Type 0
IsByFile stop.Sink = ⊥
IsByFile (stop.Queue fault) = ⊤
IsByFile stop.Read = ⊤
IsByFile stop.Memory = ⊤
IsByFile (stop.Changed line said got) = ⊤

-- it was the queue that stopped, or memory was wanting
abbrev pub IsBySession : Stop → Type 0
IsBySession stop.Sink = ⊥
IsBySession (stop.Queue fault) = ⊤
IsBySession stop.Read = ⊥
IsBySession stop.Memory = ⊤
IsBySession (stop.Changed line said got) = ⊥

-- where a file had changed, it is this one, which ended before the length that was said, for the command on this line
abbrev pub EndsEarly : Option (List ℕ → Option (List ℕ)) → (Reply → Type 0) → List ℕ → ℕ → ℕ → Stop → Type 0
EndsEarly told replied name line said stop.Sink = ⊤
EndsEarly told replied name line said (stop.Queue fault) = ⊤
EndsEarly told replied name line said stop.Read = ⊤
EndsEarly told replied name line said stop.Memory = ⊤
EndsEarly told replied name line said (stop.Changed at_line at_said got) = (at_line ≡ line) × ((at_said ≡ said) × HasEndedEarly told replied name said got)
