-- How many records the commands of a script push and how many sessions they begin, and how few blocks are written and read for that.
use Rattle.std.specs.Prelude.{◌≡◌, ℕ, ◌*◌, ◌/◌, ◌^◌, ◌≤◌, ◌<◌, List, All, sum_by}
use Rattle.std.specs.Int.{div_ceil}
use Rattle.ppq_script.specs.Words.{Words}
use Rattle.ppq_script.specs.ppq_outside.Shown.{Shown}
use Rattle.ppq_script.specs.declared.command.Command.{Command}
use Rattle.ppq_script.specs.declared.command.Command.TheVariants.{Push, Pop, Top, Size, Bulk, Gen, BulkPop, BulkPopLimit, Drain, BulkBegin, BulkPush, BulkEnd, LimitBegin, LimitPush, LimitTop, LimitPop, LimitEnd}
use Rattle.ppq_load.specs.ppq_budget.Sizes.{Numbers, heap_of}
use Rattle.ppq_load.specs.ppq_array.Kept.{all_writes}
use Rattle.ppq_load.specs.ppq_counts.Account.{too_heavy}
use Rattle.ppq_load.specs.ppq_counts.Tally.{Tally, tally, IsCounting, runs_of, bound_of}
use Rattle.ppq_load.specs.ppq_queue.Holding.{Holding, AreStoresBacked, IsSpent}

-- how many records a command pushes
abbrev pub pushes_of : {R : Type 0} → Words R → Command R → ℕ
pushes_of w (Push item) = 1
pushes_of w Pop = 0
pushes_of w Top = 0
pushes_of w Size = 0
pushes_of w (Bulk file bytes) = bytes / w.WIDTH
pushes_of w (Gen seed count) = count
pushes_of w (BulkPop count) = 0
pushes_of w (BulkPopLimit limit count) = 0
pushes_of w (Drain count) = 0
pushes_of w BulkBegin = 0
pushes_of w (BulkPush pass item) = 1
pushes_of w BulkEnd = 0
pushes_of w (LimitBegin limit) = 0
pushes_of w (LimitPush pass item) = 1
pushes_of w LimitTop = 0
pushes_of w LimitPop = 0
pushes_of w LimitEnd = 0

-- how many sessions a command begins
abbrev pub begins_of : {R : Type 0} → Command R → ℕ
begins_of (Push item) = 0
begins_of Pop = 0
begins_of Top = 0
begins_of Size = 0
begins_of (Bulk file bytes) = 1
begins_of (Gen seed count) = 1
begins_of (BulkPop count) = 0
begins_of (BulkPopLimit limit count) = 0
begins_of (Drain count) = 0
begins_of BulkBegin = 1
begins_of (BulkPush pass item) = 0
begins_of BulkEnd = 0
begins_of (LimitBegin limit) = 1
begins_of (LimitPush pass item) = 0
begins_of LimitTop = 0
begins_of LimitPop = 0
begins_of LimitEnd = 0

-- the same of commands
abbrev pub pushed_by : {R : Type 0} → Words R → List (Command R) → ℕ
pushed_by w commands = sum_by (pushes_of w) commands

abbrev pub begun_by : {R : Type 0} → List (Command R) → ℕ
begun_by commands = sum_by begins_of commands

-- what commands count at the most: the records that they push, a store of a full heap for as many of these as a heap has, and their sessions
abbrev pub work_of : {R : Type 0} → Words R → Numbers → List (Command R) → Tally
work_of w sizes commands = let records = pushed_by w commands in tally records (div_ceil records (heap_of sizes)) (begun_by commands)

-- A queue of these sizes counts no more records and sessions than these commands bring, and no more stores of full heaps than its records
-- were enough for
pub record IsWithinWork {R : Type 0} (w : Words R) (commands : List (Command R)) (sizes : Numbers) (q : Holding R) : Type 0 where
  pub sizes_are : q.sizes ≡ sizes
  pub accepted : q.counts.accepted ≤ pushed_by w commands
  pub sessions : q.counts.sessions ≤ begun_by commands
  pub backed : AreStoresBacked q

-- Blocks were written for these commands: no more than their work allows, as long as it is counted and too few runs come of it to get
-- too heavy; and none was read more often than it was written
pub record TransfersFew {R : Type 0} (w : Words R) (commands : List (Command R)) (sizes : Numbers) (slots : List Shown) : Type 0 where
  pub writes :
      IsCounting (work_of w sizes commands) → runs_of sizes.workers (work_of w sizes commands) < too_heavy
      → sizes.block * all_writes slots ≤ bound_of sizes.workers sizes.block (work_of w sizes commands)
  pub read : All IsSpent slots
