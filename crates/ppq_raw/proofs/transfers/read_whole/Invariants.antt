use Rattle.std.proofs.Common.{◌≡◌, ◌≤◌, ◌-◌, length, take}
use Rattle.ppq_raw.specs.Transfers.{Keeps, Gives}
use Rattle.ppq_raw.proofs.transfers.read_whole.Given as goal

abbrev pub invariant-reading : goal.invariant-reading
invariant-reading g l = record {
  given : Gives (g.F.RawFile.holds l.fn.file) l.fn.at (take l.got l.into);
  kept : Keeps (g.F.RawFile.holds l.fn.file) (g.F.RawFile.holds l.file);
  long : length l.into ≡ length l.fn.into;
  within : l.got ≤ length l.into;
}

abbrev pub decreases-reading : goal.decreases-reading
decreases-reading g l = length l.into - l.got
