use Rattle.std.proofs.Common.{◌≡◌, ℕ, ◌<◌, length, get_or}
use Rattle.ppq_split.specs.ppq_record.Runs.{list_at}
use Rattle.ppq_merge.proofs.alone.write_ends.Given as goal

abbrev pub invariant-loop-run : goal.invariant-loop-run
invariant-loop-run g l = (j : ℕ) → j < l.run → get_or l.to j 0 ≡ length (list_at (g.Q.Listing.lists l.runs) j)
