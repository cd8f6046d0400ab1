use Rattle.std.proofs.Common.{◌≤◌, ◌-◌, length, take}
use Rattle.ppq_raw.specs.Transfers.{Writes}
use Rattle.ppq_raw.proofs.transfers.write_whole.Given as goal

abbrev pub invariant-writing : goal.invariant-writing
invariant-writing g l = record {
  written : Writes (g.F.RawFile.holds l.fn.file) (g.F.RawFile.holds l.file) l.fn.at (take l.done l.fn.bytes);
  within : l.done ≤ length l.fn.bytes;
}

abbrev pub decreases-writing : goal.decreases-writing
decreases-writing g l = length l.fn.bytes - l.done
