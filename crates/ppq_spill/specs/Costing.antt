-- What storing a run and merging a level cost.
use Rattle.std.specs.Prelude.{ℕ, ◌+◌, ◌*◌, List, length, Result, Ok, Err}
use Rattle.ppq_counts.specs.Account.{Account, account, Costs, Stops}
use Rattle.ppq_fetch.specs.ppq_outside.Shown.{Shown}
use Rattle.ppq_fetch.specs.ppq_array.declared.store_fault.StoreFault.{StoreFault}
use Rattle.ppq_fetch.specs.ppq_array.declared.store_fault.StoreFault.TheVariants.{NoFreeBlock, Device}
use Rattle.ppq_fetch.specs.ppq_array.External.{External, size_of}
use Rattle.ppq_fetch.specs.ppq_array.Supply.{Stock}
use Rattle.ppq_fetch.specs.ppq_array.Kept.{all_writes, all_reads}
use Rattle.ppq_spill.specs.Storing.{in_buffers, slots_before, slots_after}
use Rattle.ppq_spill.specs.Leveling.{arrays_before, arrays_after}
use Rattle.ppq_spill.specs.declared.body.PassBody.{PassBody}

-- a call with this answer cost no more than this, and made no more runs in blocks than so many; one that was refused no more than what was
-- spent and made before; and of one that met a fault of a device only the writes are bounded
abbrev pub AnswerCosts : {T : Type 0} → Result T StoreFault → ℕ → ℕ → ℕ → ℕ → Account → Account → Type 0
AnswerCosts (Ok value) cost runs spent made old new = Costs cost runs old new
AnswerCosts (Err NoFreeBlock) cost runs spent made old new = Costs spent made old new
AnswerCosts (Err (Device number)) cost runs spent made old new = Stops cost runs old new

-- the same as a record
pub record PaysUnless {T : Type 0} (result : Result T StoreFault) (cost runs spent made : ℕ) (old new : Account) : Type 0 where
  pub pays : AnswerCosts result cost runs spent made old new

-- the same, where a refusal may cost as much
abbrev pub Pays : {T : Type 0} → Result T StoreFault → ℕ → ℕ → Account → Account → Type 0
Pays result cost runs old new = PaysUnless result cost runs cost runs old new

module _ {S R : Type 0} where
  -- the account of runs in blocks, with so many records in memory
  abbrev pub arrays_account : ℕ → List Shown → List (External S R) → ℕ → Account
  arrays_account block slots arrays in_memory = account (λ (a : External S R). a.level) size_of (λ (a : External S R). length a.stored) block (all_writes slots) (all_reads slots) arrays in_memory

  -- the account of a body, whose runs in buffers are in memory
  abbrev pub body_account : ℕ → List Shown → PassBody S R → Account
  body_account block slots body = arrays_account block slots body.runs.external.items (in_buffers body)

  module _ (shown : S → Shown) where
    -- A store of so many records costs what it costs to write them once on each level, and a block that may be part full; a refusal is free
    abbrev pub StorePays : {T : Type 0} → Result T StoreFault → ℕ → PassBody S R → PassBody S R → Stock → Stock → Type 0
    StorePays result n old new before now = PaysUnless result (56 * n + 8 * before.block) 1 0 0 (body_account before.block (slots_before shown old before now) old) (body_account before.block (slots_after shown new before now) new)

    -- A merge of a level costs nothing: it is paid by what its runs owed. So it is with any records in memory
    abbrev pub LevelPays : {T : Type 0} → Result T StoreFault → List (External S R) → List (External S R) → Stock → Stock → Type 0
    LevelPays result old new before now = (records : ℕ) → Pays result 0 0 (arrays_account before.block (arrays_before shown old before now) old records) (arrays_account before.block (arrays_after shown new before now) new records)
