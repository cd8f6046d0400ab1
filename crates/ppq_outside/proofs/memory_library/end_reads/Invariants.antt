use Rattle.std.proofs.Common.{◌≡◌, take, drop, length}
use Rattle.std.specs.List.{AllZip}
use Rattle.ppq_outside.specs.Entries.{IsShrunk}
use Rattle.ppq_outside.proofs.memory_library.end_reads.Given as goal

abbrev pub invariant-loop-entry : goal.invariant-loop-entry
invariant-loop-entry l = record {
  done : AllZip (IsShrunk l.name l.to) (take l.entry-index l.fn.entries) (take l.entry-index l.entries);
  left : drop l.entry-index l.entries ≡ drop l.entry-index l.fn.entries;
  long : length l.entries ≡ length l.fn.entries;
}
