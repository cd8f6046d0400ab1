-- Which raw calls were made of an open file.
use Rattle.std.specs.Prelude.{Bool, List, ◌++◌, Result, ⊤}
use Rattle.ppq_outside.specs.declared.fault.Failed.{Failed}
use Rattle.ppq_raw.specs.declared.file_data.FileData.{FileData}

-- a raw call of an open file, with its answer, but for the bytes of a transfer
pub data Call : Type 0 where
  Asked : (answer : Result FileData Failed) → Call
  Locked : (answer : Bool) → Call
  Cut : (answer : Result ⊤ Failed) → Call
  Read : Call
  Wrote : Call

-- these calls were made, in this order: whatever was called before, now it is that and then these
abbrev pub HasCalled : (List Call → Type 0) → (List Call → Type 0) → List Call → Type 0
HasCalled before now calls = (made : List Call) → before made → now (made ++ calls)
