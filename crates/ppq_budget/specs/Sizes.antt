-- The sizes of a queue, and what its parts take of the budget. All amounts are records, but where the
-- comment says blocks.
use Rattle.std.specs.Prelude.{ℕ, ◌+◌, ◌-◌, ◌*◌, ◌/◌, ◌≤◌, ◌≡◌, min}
use Rattle.ppq_budget.specs.Levels.{fan, most_runs}

-- the five numbers from which a queue's sizes follow
pub record Numbers : Type 0 where
  pub workers : ℕ
  pub block : ℕ
  pub heap : ℕ
  pub memory : ℕ
  pub blocks : ℕ

abbrev pub numbers : ℕ → ℕ → ℕ → ℕ → ℕ → Numbers
numbers workers block heap memory blocks = record { workers = workers; block = block; heap = heap; memory = memory; blocks = blocks }

-- each number is in its range
pub record AreInRange (n : Numbers) : Type 0 where
  pub some_worker : 1 ≤ n.workers
  pub workers : n.workers ≤ 64
  pub two_records : 2 ≤ n.block
  pub block : n.block ≤ 65536
  pub some_heap : 1 ≤ n.heap
  pub heap : n.heap ≤ 64
  pub memory : n.memory ≤ 268435456
  pub blocks : n.blocks ≤ 65536

-- what one insertion heap holds
abbrev pub heap_of : Numbers → ℕ
heap_of n = n.heap * n.block

-- a block for each worker: what one round of merging gives, and what each buffer of a round holds
abbrev pub batch_of : Numbers → ℕ
batch_of n = n.workers * n.block

-- a heap for each worker
abbrev pub heaps_of : Numbers → ℕ
heaps_of n = n.workers * heap_of n

-- the extract buffer, and the buffer for what a bulk pop gives
abbrev pub extract_and_out_of : Numbers → ℕ
extract_and_out_of n = 2 * batch_of n

-- two lane buffers for each worker
abbrev pub lanes_of : Numbers → ℕ
lanes_of n = 2 * batch_of n

-- the records that a merge hands on
abbrev pub deal_of : Numbers → ℕ
deal_of n = batch_of n

-- a loaded block for each run in blocks, and one for each input of a merge
abbrev pub fronts_and_inputs_of : Numbers → ℕ
fronts_and_inputs_of n = (most_runs + fan) * n.block

-- a block that is read ahead for each worker
abbrev pub prefetch_of : Numbers → ℕ
prefetch_of n = batch_of n

-- the first record of each block of the device
abbrev pub minima_of : Numbers → ℕ
minima_of n = n.blocks

-- how many buffers loaded blocks, lanes and blocks that are read ahead have: one for each run and for each input of a merge, and three for
-- each worker
abbrev pub lane_buffers : Numbers → ℕ
lane_buffers n = 72 + 3 * n.workers

-- the part of the budget that a queue takes whatever it holds
abbrev pub fixed_of : Numbers → ℕ
fixed_of n = n.block * (n.workers * n.heap + 6 * n.workers + 72) + n.blocks

-- the parts are all of the fixed part
abbrev pub ArePartsOfFixed : Numbers → Type 0
ArePartsOfFixed n = heaps_of n + extract_and_out_of n + lanes_of n + deal_of n + fronts_and_inputs_of n + prefetch_of n + minima_of n ≡ fixed_of n

-- how many buffers of a block each the rest of the budget has, and never more than 65536
abbrev pub pool_of : Numbers → ℕ
pool_of n = min 65536 ((n.memory - fixed_of n) / n.block)

-- how many blocks so many records fill, the last perhaps in part
abbrev pub blocks_for : Numbers → ℕ → ℕ
blocks_for n load = (load + (n.block - 1)) / n.block

-- how many device blocks are enough for a load of so many records
abbrev pub room_of : Numbers → ℕ → ℕ
room_of n load = 2 * blocks_for n load + 72 + 4 * n.workers
