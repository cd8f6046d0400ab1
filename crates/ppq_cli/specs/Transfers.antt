-- How many blocks a run writes and reads, and of how many bytes they are.
use Rattle.std.specs.Prelude.{ℕ, ◌*◌, ◌<◌, ◌≤◌, List, All}
use Rattle.ppq_words.specs.ppq_outside.Shown.{Shown}
use Rattle.ppq_words.specs.ppq_budget.Sizes.{Numbers}
use Rattle.ppq_jobs.specs.ppq_engine.ppq_array.Kept.{all_writes, all_reads}
use Rattle.ppq_jobs.specs.ppq_engine.ppq_array.Supply.{IsSlot}
use Rattle.ppq_jobs.specs.ppq_engine.ppq_counts.Tally.{Tally, runs_of, bound_of}
use Rattle.ppq_jobs.specs.ppq_engine.ppq_counts.Account.{too_heavy}

-- Of a queue of these sizes, over records of this width, where so much work makes too few runs to get too heavy: the records that were written, by
-- blocks, are within its bound. Of any work: no more blocks were read than written; and each has the bytes of so many records as the sizes say, and was
-- read no more often than it was written
pub record TransfersWithin (sizes : Numbers) (width : ℕ) (work : Tally) (slots : List Shown) : Type 0 where
  pub writes : runs_of sizes.workers work < too_heavy → sizes.block * all_writes slots ≤ bound_of sizes.workers sizes.block work
  pub read : all_reads slots ≤ all_writes slots
  pub each : All (IsSlot (sizes.block * width)) slots
