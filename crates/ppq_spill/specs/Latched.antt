-- The number of the block that failed.
use Rattle.std.specs.Prelude.{ℕ, Option, Some, Result, Ok, Err}
use Rattle.ppq_fetch.specs.ppq_array.declared.store_fault.StoreFault.{StoreFault}
use Rattle.ppq_fetch.specs.ppq_array.declared.store_fault.StoreFault.TheVariants.{NoFreeBlock, Device}

-- the number that is kept after an answer
abbrev pub latched : {T : Type 0} → Result T StoreFault → Option ℕ → Option ℕ
latched (Ok value) failed = failed
latched (Err NoFreeBlock) failed = failed
latched (Err (Device number)) failed = Some number
