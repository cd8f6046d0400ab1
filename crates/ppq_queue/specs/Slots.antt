-- The slots of a queue.
use Rattle.std.specs.Prelude.{ℕ, List}
use Rattle.ppq_extract.specs.ppq_outside.Shown.{Shown}
use Rattle.ppq_extract.specs.ppq_array.Supply.{Stock}
pub use Rattle.ppq_extract.specs.ppq_array.Kept.{SameSums}

-- a supply with other slots
abbrev pub with_slots : Stock → List Shown → ℕ → Stock
with_slots old kept room = record old { kept = kept; slot_room = room }

-- a supply with so many idle buffers, and so many that are out
abbrev pub with_pool : Stock → ℕ → ℕ → Stock
with_pool old sure room = record old { sure_buffers = sure; buffer_room = room }
