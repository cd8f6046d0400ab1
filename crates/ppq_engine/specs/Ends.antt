-- When a run ends how. What many clauses ask of an end is asked of its class, so a further end is one line more in `class_of`.
use Rattle.std.specs.Prelude.{◌≡◌, ◌⊎◌, ◌<◌, ◌^◌, ℕ, List, Option, Some, None, MatchOption, if◌then◌else◌, nat_lt, ⊤}
use Rattle.ppq_script.specs.ppq_outside.Shown.{Shown}
use Rattle.ppq_load.specs.ppq_budget.Sizes.{Numbers, fixed_of}
use Rattle.ppq_load.specs.ppq_array.Kept.{HasFailed}
use Rattle.ppq_engine.specs.declared.end.End.{End}
use Rattle.ppq_engine.specs.declared.end.End.TheVariants.{Done, BadLine, Usage, ReadFault, WriteFault, DeviceFault, NoFreeBlock, BudgetTooSmall, Memory, FileChanged, NoDevice, NoScript, ScriptTooLong, BadAgenda, BadEdge}

-- What ends have in common: all was done; the arguments, the script or the budget were refused, before a block was made; the device could not be
-- made; the library failed; the sink or a block failed; a file had become shorter, or a record of it was bad; no block was free; or it gave up, since
-- memory was wanting
pub data Class : Type 0 where
  Finished : Class
  Refused : Class
  Unmade : Class
  Unread : Class
  Broken : Class
  Shrunk : Class
  Spoiled : Class
  Full : Class
  GaveUp : Class

-- the class of each end
abbrev pub class_of : End → Class
class_of Done = Finished
class_of (BadLine line) = Refused
class_of Usage = Refused
class_of ReadFault = Unread
class_of WriteFault = Broken
class_of (DeviceFault number) = Broken
class_of NoFreeBlock = Full
class_of (BudgetTooSmall need) = Refused
class_of Memory = GaveUp
class_of (FileChanged line said got) = Shrunk
class_of NoDevice = Unmade
class_of NoScript = Refused
class_of ScriptTooLong = Refused
class_of BadAgenda = Refused
class_of (BadEdge at) = Spoiled

-- a class of ends with which the commands were begun: all was done, sink, block or library failed, no block was free, or a file had changed
abbrev pub HasBegun : Class → Type 0
HasBegun Finished = ⊤
HasBegun Refused = ⊥
HasBegun Unmade = ⊥
HasBegun Unread = ⊤
HasBegun Broken = ⊤
HasBegun Shrunk = ⊤
HasBegun Spoiled = ⊥
HasBegun Full = ⊤
HasBegun GaveUp = ⊥

-- a class of ends that come of a run alone; a library may fail, and a file be shorter, where no script was loaded yet
abbrev pub HasSurelyRun : Class → Type 0
HasSurelyRun Finished = ⊤
HasSurelyRun Refused = ⊥
HasSurelyRun Unmade = ⊥
HasSurelyRun Unread = ⊥
HasSurelyRun Broken = ⊤
HasSurelyRun Shrunk = ⊥
HasSurelyRun Spoiled = ⊥
HasSurelyRun Full = ⊤
HasSurelyRun GaveUp = ⊥

-- a class of ends that come before a block is made
abbrev pub IsRefusal : Class → Type 0
IsRefusal Finished = ⊥
IsRefusal Refused = ⊤
IsRefusal Unmade = ⊥
IsRefusal Unread = ⊥
IsRefusal Broken = ⊥
IsRefusal Shrunk = ⊥
IsRefusal Spoiled = ⊥
IsRefusal Full = ⊥
IsRefusal GaveUp = ⊥

-- a class of ends that name no fault of library, sink, rack or block
abbrev pub IsFaultless : Class → Type 0
IsFaultless Finished = ⊤
IsFaultless Refused = ⊤
IsFaultless Unmade = ⊥
IsFaultless Unread = ⊥
IsFaultless Broken = ⊥
IsFaultless Shrunk = ⊤
IsFaultless Spoiled = ⊤
IsFaultless Full = ⊤
IsFaultless GaveUp = ⊤

-- all was done, or memory was wanting; or a file had changed, where the library does not tell
abbrev pub CompletesBy : Option (List ℕ → Option (List ℕ)) → Class → Type 0
CompletesBy told Finished = ⊤
CompletesBy told Refused = ⊥
CompletesBy told Unmade = ⊥
CompletesBy told Unread = ⊥
CompletesBy told Broken = ⊥
CompletesBy told Shrunk = told ≡ None
CompletesBy told Spoiled = ⊥
CompletesBy told Full = ⊥
CompletesBy told GaveUp = ⊤

-- this holds where a file could not be read, or had changed
abbrev pub IfFile : Class → Type 0 → Type 0
IfFile Finished P = ⊤
IfFile Refused P = ⊤
IfFile Unmade P = ⊤
IfFile Unread P = P
IfFile Broken P = ⊤
IfFile Shrunk P = P
IfFile Spoiled P = ⊤
IfFile Full P = ⊤
IfFile GaveUp P = ⊤

-- the answer to a budget below its fixed part, and none to another
abbrev pub budget_refusal : Numbers → Option End
budget_refusal sizes = if nat_lt sizes.memory (fixed_of sizes) then Some (BudgetTooSmall (fixed_of sizes)) else None

-- the run was begun: it was done, its sink, a block or the library failed, a run of records found no free block, or a file had changed
abbrev pub BeganCommands : End → Type 0
BeganCommands end = HasBegun (class_of end)

-- of these blocks none has failed
abbrev pub NoneFailed : List Shown → Type 0
NoneFailed slots = (number : ℕ) → ¬ HasFailed number slots

-- the refusal, where there is one, and only then; or memory was wanting
abbrev pub BeganOrRefused : Option End → End → Type 0
BeganOrRefused refusal end = MatchOption refusal (BeganCommands end) (λ e. end ≡ e) ⊎ (end ≡ Memory)

-- the end is done or want of memory; or a file had changed, where the library does not tell
abbrev pub IsCompleted : Option (List ℕ → Option (List ℕ)) → End → Type 0
IsCompleted told end = CompletesBy told (class_of end)

-- the count is far from its last value, and did not rise
abbrev pub IsQuiet : ℕ → ℕ → Type 0
IsQuiet before now = (before < 2 ^ 63) × (now ≡ before)

-- the end names no fault of library, sink, rack or block
abbrev pub NoFault : End → Type 0
NoFault end = IsFaultless (class_of end)
