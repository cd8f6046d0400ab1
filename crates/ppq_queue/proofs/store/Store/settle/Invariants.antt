use Rattle.std.proofs.Common.{ℕ, ◌<◌, ◌≤◌}
use Rattle.ppq_spill.specs.Leveling.{count_level}
use Rattle.ppq_queue.specs.Stores.{LevelsLeave}
use Rattle.ppq_queue.proofs.Stores.{done}
use Rattle.ppq_queue.proofs.store.Store.settle.Given as goal

abbrev pub invariant-loop-level : goal.invariant-loop-level
invariant-loop-level g l = record {
  so_far : LevelsLeave g.S.Slot.shown g.R.Ord.cmp g.R.Record.record_of g.R.Record.WIDTH l.fn.self l.self done;
  levels : (j : ℕ) → j < l.level → count_level j l.self.body.runs.external.items ≤ 8;
}
