-- The number that is kept of a block that failed.
use Rattle.std.proofs.Common.{◌≡◌, ◌∙◌, ℕ, Option, Some, Result, Err, refl, sym, ap}
use Rattle.ppq_fetch.specs.ppq_array.declared.store_fault.StoreFault.{StoreFault}
use Rattle.ppq_fetch.specs.ppq_array.declared.store_fault.StoreFault.TheVariants.{NoFreeBlock, Device}
use Rattle.ppq_spill.specs.Latched.{latched}

abbrev refused : (T : Type 0) → StoreFault → Result T StoreFault
refused T fault = Err fault

-- after a fault it is that of its block
pub latched_device : (T : Type 0) (failed late : Option ℕ) (r : Result T StoreFault) (fault : StoreFault) (number : ℕ) → late ≡ latched r failed → r ≡ refused T fault → fault ≡ Device number → Some number ≡ late
latched_device T failed late r fault number kept is named = sym (kept ∙ ap (λ x. latched x failed) (is ∙ ap (refused T) named))
