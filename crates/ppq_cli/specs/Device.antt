-- The blocks of a device.
use Rattle.std.specs.Prelude.{◌≡◌, ◌≤◌, ◌⊎◌, ⊤, ℕ, zero, suc, List, length, map, All, Vec, Result, Ok, Err, OnOk, IfErr}
use Rattle.std.specs.List.{range_with_len}
use Rattle.std.specs.List.Sorted.{IsPermutation}
use Rattle.std.specs.declared.alloc.Global.{Global}
use Rattle.ppq_words.specs.ppq_outside.declared.fault.OutsideFault.{OutsideFault}
use Rattle.ppq_words.specs.ppq_outside.declared.fault.OutsideFault.TheVariants.{Failed, Memory}
use Rattle.ppq_words.specs.ppq_outside.Told.{Rose}
use Rattle.ppq_words.specs.ppq_outside.Shown.{Shown, AllTell}
use Rattle.ppq_jobs.specs.ppq_engine.ppq_queue.Holding.{IsNewSlot}
use Rattle.ppq_jobs.specs.ppq_engine.Ends.{class_of, HasSurelyRun, IsRefusal, BeganCommands}
use Rattle.ppq_jobs.specs.ppq_engine.declared.end.End.{End}
use Rattle.ppq_jobs.specs.ppq_engine.declared.end.End.TheVariants as end

-- new blocks, numbered from 0 in order
pub record AreNew (bytes : ℕ) (slots : List Shown) : Type 0 where
  pub numbers : map (λ s. s.number) slots ≡ range_with_len 0 (length slots)
  pub each : All (IsNewSlot bytes) slots

-- the blocks that were made, all of them or those before one that could not be made
abbrev pub made_in : {S : Type 0} → Result (Vec S Global) (Vec S Global × OutsideFault) → List S
made_in (Ok blocks) = blocks.items
made_in (Err refused) = refused.0.items

-- what a count of faults did where not all blocks were made
abbrev pub HasReason : ℕ → ℕ → OutsideFault → Type 0
HasReason before now Failed = Rose before now
HasReason before now Memory = now ≡ before

-- A count of faults where blocks are made: it did not fall, it stayed where all were made, and else did what the reason says
pub record RackCounts {S : Type 0} (before now : ℕ) (result : Result (Vec S Global) (Vec S Global × OutsideFault)) : Type 0 where
  pub later : before ≤ now
  pub stays : OnOk result (now ≡ before)
  pub reason : IfErr result (λ refused. HasReason before now refused.1)

-- new blocks of so many bytes, no more than a device has; where the rack tells, they do
pub record AreMade {S : Type 0} (shown : S → Shown) (tells : Type 0) (most_blocks bytes : ℕ) (blocks : List S) : Type 0 where
  pub most : length blocks ≤ most_blocks
  pub new : AreNew bytes (map shown blocks)
  pub tell : tells → AllTell (map shown blocks)

-- why not all blocks were made, as an end
abbrev pub make_end : OutsideFault → End
make_end Failed = end.NoDevice
make_end Memory = end.Memory

-- the script was run, whatever the files: the other ends of a run come also where the script could not be loaded
abbrev pub IsSurelyRun : End → Type 0
IsSurelyRun end = HasSurelyRun (class_of end)

-- the arguments, the script or the budget were refused: the end comes before a block is made
abbrev pub ComesBeforeBlocks : End → Type 0
ComesBeforeBlocks end = IsRefusal (class_of end)

-- the end comes only where all blocks were made: of a run, or since a record of a file of edges is no edge
abbrev pub HasAllBlocks : End → Type 0
HasAllBlocks (end.BadEdge zero) = ⊥
HasAllBlocks (end.BadEdge (suc at)) = ⊤
HasAllBlocks answer = IsSurelyRun answer

-- the end comes before a block is made: of a refusal, or since a file is none of edges
abbrev pub HasNoBlock : End → Type 0
HasNoBlock (end.BadEdge zero) = ⊤
HasNoBlock (end.BadEdge (suc at)) = ⊥
HasNoBlock answer = ComesBeforeBlocks answer

-- what a device has: so many blocks, and which numbers of bytes each may have
pub record DeviceShape : Type 1 where
  pub blocks : ℕ
  pub IsSize : ℕ → Type 0

-- a block that comes back has such a number of bytes, and was read no more often than it was written
pub record IsBlock (IsSize : ℕ → Type 0) (slot : Shown) : Type 0 where
  pub size : IsSize slot.size
  pub spent : slot.reads ≤ slot.writes

-- the blocks that come back with an end, of a device of this shape: their numbers are those from 0 on, each once; all of them
-- where the script was run, or a record is no edge; none where it was refused, or a file is none of edges
pub record AreBlocks (shape : DeviceShape) (answer : End) (slots : List Shown) : Type 0 where
  pub numbers : IsPermutation (map (λ s. s.number) slots) (range_with_len 0 (length slots))
  pub each : All (IsBlock shape.IsSize) slots
  pub most : length slots ≤ shape.blocks
  pub all : HasAllBlocks answer → length slots ≡ shape.blocks
  pub all_or_none : BeganCommands answer → (length slots ≡ shape.blocks) ⊎ (length slots ≡ 0)
  pub none : HasNoBlock answer → length slots ≡ 0
