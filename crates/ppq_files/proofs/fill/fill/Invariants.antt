use Rattle.std.proofs.Common.{◌≡◌, ◌≤◌, ◌+◌, ◌-◌, length, take}
use Rattle.ppq_files.specs.Reading.{IsGivenAt, ReadsFile}
use Rattle.ppq_files.proofs.fill.fill.Given as goal

abbrev pub invariant-reading : goal.invariant-reading
invariant-reading g l = record {
  reads : ReadsFile g.L.Library.told g.L.Library.replied l.fn.name (l.fn.at + length l.piece) l.fn.library l.library;
  given : IsGivenAt (g.L.Library.replied l.library) l.fn.name l.fn.at (take l.got l.piece);
  stays : g.L.Library.faults l.library ≡ g.L.Library.faults l.fn.library;
  long : length l.piece ≡ length l.fn.piece;
  within : l.got ≤ length l.piece;
}

abbrev pub decreases-reading : goal.decreases-reading
decreases-reading g l = length l.piece - l.got
