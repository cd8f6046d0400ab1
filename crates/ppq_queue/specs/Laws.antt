-- What the clauses of a queue say together.
use Rattle.std.specs.Prelude.{◌≡◌, ◌<◌, ◌≤◌, ◌+◌, ◌*◌, length}
use Rattle.ppq_extract.specs.ppq_budget.Sizes.{Numbers, AreInRange, heap_of, room_of}
use Rattle.ppq_spill.specs.ppq_counts.Tally.{Tally, IsBacked, bound_of}
use Rattle.ppq_queue.specs.Holding.{Holding, UsesBlocks, FoundNoBlock}

-- a queue that found no free block has fewer blocks than are enough for the records that it has
abbrev pub RefusalsAreRight : Type 0 → Type 0
RefusalsAreRight R = (old new : Holding R) → AreInRange new.sizes → length new.slots ≡ new.sizes.blocks → UsesBlocks new → FoundNoBlock old new → new.sizes.blocks < room_of new.sizes new.size

-- all blocks of a queue without records are free
abbrev pub NoneInUse : Type 0 → Type 0
NoneInUse R = (q : Holding R) → AreInRange q.sizes → length q.slots ≡ q.sizes.blocks → q.free ≤ q.sizes.blocks → UsesBlocks q → q.size ≡ 0 → q.free ≡ q.sizes.blocks

-- For each accepted record 8 records are written, and for as many accepted records as a heap has blocks 8 for each worker and 4 more; and so many
-- blocks for each session
abbrev pub WritesAreFew : Type 0
WritesAreFew = (n : Numbers) (t : Tally) → IsBacked (heap_of n) 0 0 t → n.heap * bound_of n.workers n.block t ≤ (8 * n.heap + 8 * n.workers + 4) * t.accepted + heap_of n * ((10 * n.workers + 4) * t.sessions)
