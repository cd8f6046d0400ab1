-- What calls that hand a queue back keep, and what a refused one says of it.
use Rattle.std.specs.Prelude.{◌≡◌, ◌⊎◌, ◌<◌, ◌≤◌, ℕ, Bool, false, List}
use Rattle.ppq_pass.specs.ppq_outside.Shown.{Shown}
use Rattle.ppq_pass.specs.ppq_budget.Sizes.{Numbers, heap_of, room_of}
use Rattle.ppq_pass.specs.ppq_array.Kept.{HasFailed}
use Rattle.ppq_queue.specs.Holding.{IsAbove}
pub use Rattle.ppq_queue.specs.Holding.{Keeps}
use Rattle.ppq_pass.specs.ppq_array.declared.store_fault.StoreFault.{StoreFault as QueueFault}
use Rattle.ppq_pass.specs.ppq_array.declared.store_fault.StoreFault.TheVariants.{NoFreeBlock, Device}

-- no limit session was begun and one heap holds a load of so many records, or the device has room for it
abbrev pub HasRoom : Numbers → Bool → ℕ → Type 0
HasRoom sizes limited load = ((limited ≡ false) × (load ≤ heap_of sizes)) ⊎ (room_of sizes load ≤ sizes.blocks)

-- the contrary: the device has no room for it, and it is more than one heap holds, unless a limit session was begun
abbrev pub HasNoRoom : Numbers → Bool → ℕ → Type 0
HasNoRoom sizes limited load = IsAbove sizes load limited × (sizes.blocks < room_of sizes load)

-- what a refused call says of the queue: there is no room for its peak, or the block with this number failed
abbrev pub IsRefusedBy : ℕ → Numbers → Bool → List Shown → QueueFault → Type 0
IsRefusedBy peak sizes limited slots NoFreeBlock = HasNoRoom sizes limited peak
IsRefusedBy peak sizes limited slots (Device number) = HasFailed number slots
