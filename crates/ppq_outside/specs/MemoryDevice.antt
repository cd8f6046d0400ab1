-- What contracts see of a block and of a rack in memory, and what their calls make of them.
use Rattle.std.specs.Prelude.{ℕ, ◌+◌, ◌%◌, ◌^◌, Bool, List, [], ◌++◌, length, replicate, Option, Some, None, Result, Vec, if◌then◌else◌}
use Rattle.std.specs.declared.alloc.Global.{Global}
use Rattle.ppq_outside.specs.Told.{next_count}
use Rattle.ppq_outside.specs.Shown.{Shown}
use Rattle.ppq_outside.specs.Plan.{fails_at}
use Rattle.ppq_outside.specs.Made.{made_by}
use Rattle.ppq_outside.specs.Forged.{forged}
use Rattle.ppq_outside.specs.declared.memory_rack.Plan.{Plan}

-- a block in memory: its number, the bytes that it holds, the number that its bytes begin with where it forges, the numbers of its calls
-- that are to fail, how many calls were made of it, how many of them failed, and how many writes and reads answered Ok
pub record SlotState : Type 0 where
  pub number : ℕ
  pub held : List ℕ
  pub forges : Option ℕ
  pub plan : List ℕ
  pub calls : ℕ
  pub faults : ℕ
  pub writes : ℕ
  pub reads : ℕ

-- a block of so many zeros, for which no call was made yet, and which forges from this number on, if there is one
abbrev pub zero_slot : ℕ → ℕ → List ℕ → Option ℕ → SlotState
zero_slot number size plan forges = record { number = number; held = replicate size 0; forges = forges; plan = plan; calls = 0; faults = 0; writes = 0; reads = 0 }

-- what a block tells that holds these bytes: them, unless it forges
abbrev pub told_unless : Option ℕ → List ℕ → Option (List ℕ)
told_unless None held = Some held
told_unless (Some seed) held = None

-- what it shows as a slot: it tells, unless it forges
abbrev pub slot_shown : SlotState → Shown
slot_shown slot = record { told = told_unless slot.forges slot.held; number = slot.number; size = length slot.held; faults = slot.faults; writes = slot.writes; reads = slot.reads }

-- the next call of the block fails
abbrev pub slot_fails : SlotState → Bool
slot_fails slot = fails_at slot.plan (next_count slot.calls)

-- the block after a call, but for what the call was to do
abbrev pub after_call : SlotState → SlotState
after_call slot = record slot {
  calls = next_count slot.calls;
  faults = if slot_fails slot then next_count slot.faults else slot.faults;
}

-- what a block holds after a write of these bytes, and held before: them, unless it forges
abbrev pub held_unless : Option ℕ → List ℕ → List ℕ → List ℕ
held_unless None held bytes = bytes
held_unless (Some seed) held bytes = held

-- the block after a write of these bytes
abbrev pub after_write : SlotState → List ℕ → SlotState
after_write slot bytes = if slot_fails slot then after_call slot else record (after_call slot) { held = held_unless slot.forges slot.held bytes; writes = next_count slot.writes }

-- what a read gives of a block of this number which holds these bytes, after so many reads: them, or what it forges
abbrev pub given_by : Option ℕ → ℕ → List ℕ → ℕ → List ℕ
given_by None number held reads = held
given_by (Some seed) number held reads = forged ((seed + number + reads) % 2 ^ 64) (length held)

-- what the next read of the block gives
abbrev pub read_from : SlotState → List ℕ
read_from slot = given_by slot.forges slot.number slot.held slot.reads

-- the block after a read
abbrev pub after_read : SlotState → SlotState
after_read slot = if slot_fails slot then after_call slot else record (after_call slot) { reads = next_count slot.reads }

-- a rack in memory: the planned failures of calls of its blocks, each the number of a block and the number of its call, the numbers
-- of the blocks whose making is to fail, the number that the bytes of its blocks begin with where they forge, the numbers of the blocks
-- that it made, in order, and how many of its calls failed
pub record RackState : Type 0 where
  pub calls : List (ℕ × ℕ)
  pub makes : List ℕ
  pub forges : Option ℕ
  pub made : List ℕ
  pub faults : ℕ

-- a rack that made no block yet
abbrev pub fresh_rack : List (ℕ × ℕ) → List ℕ → RackState
fresh_rack calls makes = record { calls = calls; makes = makes; forges = None; made = []; faults = 0 }

-- a rack that made no block yet, whose blocks forge from this number on, and of which nothing is to fail
abbrev pub forging_rack : ℕ → RackState
forging_rack seed = record { calls = []; makes = []; forges = Some seed; made = []; faults = 0 }

-- the making of the block with this number fails
abbrev pub make_fails : RackState → ℕ → Bool
make_fails rack number = fails_at rack.makes number

-- the rack after a call with this answer, for the block of this number
abbrev pub after_make : {S E : Type 0} → RackState → Result S E → ℕ → RackState
after_make rack result number = record rack {
  made = rack.made ++ made_by result number;
  faults = if make_fails rack number then next_count rack.faults else rack.faults;
}

-- the numbers of a list, where there is one
abbrev pub numbers_in : Option (Vec ℕ Global) → List ℕ
numbers_in None = []
numbers_in (Some numbers) = numbers.items

-- the calls, and the blocks, that a plan names, where there is one
abbrev pub calls_in : Option Plan → List (ℕ × ℕ)
calls_in None = []
calls_in (Some plan) = plan.calls.items

abbrev pub makes_in : Option Plan → List ℕ
makes_in None = []
makes_in (Some plan) = plan.makes.items
