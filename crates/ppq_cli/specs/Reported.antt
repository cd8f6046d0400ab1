-- What statuses and reports say of ends.
use Rattle.std.specs.Prelude.{◌<◌, ◌^◌, ⊤}
use Rattle.ppq_jobs.specs.ppq_engine.declared.end.End.{End}
use Rattle.ppq_jobs.specs.ppq_engine.declared.end.End.TheVariants.{Done, BadLine, Usage, ReadFault, WriteFault, DeviceFault, NoFreeBlock, BudgetTooSmall, Memory, FileChanged, NoDevice, NoScript, ScriptTooLong, BadAgenda, BadEdge}

-- an end without the numbers that it names
abbrev pub bare : End → End
bare Done = Done
bare (BadLine line) = BadLine 0
bare Usage = Usage
bare ReadFault = ReadFault
bare WriteFault = WriteFault
bare (DeviceFault number) = DeviceFault 0
bare NoFreeBlock = NoFreeBlock
bare (BudgetTooSmall need) = BudgetTooSmall 0
bare Memory = Memory
bare (FileChanged line said got) = FileChanged 0 0 0
bare NoDevice = NoDevice
bare NoScript = NoScript
bare ScriptTooLong = ScriptTooLong
bare BadAgenda = BadAgenda
bare (BadEdge at) = BadEdge 0

-- the numbers that an end names fit into 64 bits, as they do in the program
abbrev pub HasNumbers : End → Type 0
HasNumbers Done = ⊤
HasNumbers (BadLine line) = line < 2 ^ 64
HasNumbers Usage = ⊤
HasNumbers ReadFault = ⊤
HasNumbers WriteFault = ⊤
HasNumbers (DeviceFault number) = number < 2 ^ 64
HasNumbers NoFreeBlock = ⊤
HasNumbers (BudgetTooSmall need) = need < 2 ^ 64
HasNumbers Memory = ⊤
HasNumbers (FileChanged line said got) = (line < 2 ^ 64) × ((said < 2 ^ 64) × (got < 2 ^ 64))
HasNumbers NoDevice = ⊤
HasNumbers NoScript = ⊤
HasNumbers ScriptTooLong = ⊤
HasNumbers BadAgenda = ⊤
HasNumbers (BadEdge at) = at < 2 ^ 64
