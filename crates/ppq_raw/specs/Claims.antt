-- Which raw calls a device makes of its file before any byte is moved.
use Rattle.std.specs.Prelude.{◌≡◌, ◌⊎◌, Bool, true, false, List, [], ◌∷◌, Result, Ok, Err, IsOk, IsErr, Contains, ⊤}
use Rattle.ppq_outside.specs.declared.fault.Failed.{Failed}
use Rattle.ppq_raw.specs.declared.file_data.FileData.{FileData}
use Rattle.ppq_raw.specs.declared.file_numbers.FileNumbers.{FileNumbers}
use Rattle.ppq_raw.specs.Calls.{Call, Asked, Locked, Cut, HasCalled}

-- of a plain file these calls take it: one that is not locked is refused, with no further call, and one that is locked is cut
abbrev pub IsTaken : List Call → Result ⊤ Failed → Type 0
IsTaken calls result = ((calls ≡ Locked false ∷ []) × IsErr result) ⊎ (calls ≡ Locked true ∷ Cut result ∷ [])

-- a plain file was taken, with this result: these calls were made, and no others
pub record Takes (before now : List Call → Type 0) (result : Result ⊤ Failed) : Type 0 where
  pub calls : List Call
  pub made : HasCalled before now calls
  pub taken : IsTaken calls result

-- these calls take any file: of one that is not plain no call is made
abbrev pub IsTakenIf : Bool → List Call → Result ⊤ Failed → Type 0
IsTakenIf true calls result = IsTaken calls result
IsTakenIf false calls result = (calls ≡ []) × IsOk result

-- these calls followed on what the machine said of the file: it is refused with no further call, if the machine said nothing or it is one
-- of the spared ones, and else it is taken
abbrev pub IsClaim : List FileNumbers → Result FileData Failed → List Call → Result ⊤ Failed → Type 0
IsClaim spared (Err fault) calls result = (calls ≡ []) × IsErr result
IsClaim spared (Ok said) calls result = (Contains spared said.numbers × (calls ≡ []) × IsErr result) ⊎ ((Contains spared said.numbers → ⊥) × IsTakenIf said.is_plain calls result)

-- a file was claimed, with this result: the machine was asked, then these calls were made, and no others
pub record Claims (spared : List FileNumbers) (before now : List Call → Type 0) (result : Result ⊤ Failed) : Type 0 where
  pub answer : Result FileData Failed
  pub calls : List Call
  pub made : HasCalled before now (Asked answer ∷ calls)
  pub claim : IsClaim spared answer calls result
