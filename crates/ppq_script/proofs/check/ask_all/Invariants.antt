use Rattle.std.proofs.Common.{◌≡◌, length, take, drop, map}
use Rattle.std.specs.Prelude.{string_bytes}
use Rattle.std.specs.List.{AllZip}
use Rattle.ppq_outside.specs.Told.{RepliesOnly}
use Rattle.ppq_files.specs.Reading.{LibraryKeeps}
use Rattle.ppq_script.specs.Files.{IsLength}
use Rattle.ppq_script.specs.Checking.{IsAsked, IsKeptAmong, IsSameItem}
use Rattle.ppq_script.specs.Words.{words}
use Rattle.ppq_script.proofs.check.ask_all.Given as goal

abbrev pub invariant-loop-item : goal.invariant-loop-item
invariant-loop-item g l = record {
  done : AllZip (IsAsked (words g.R.PartialEq g.R.PartialOrd g.R.Ord g.R.Record g.R.Fields) (g.L.Library.replied l.library) (map string_bytes l.names)) (take l.item-index l.fn.commands) (take l.item-index l.commands);
  same : AllZip IsSameItem l.fn.commands l.commands;
  left : drop l.item-index l.commands ≡ drop l.item-index l.fn.commands;
  long : length l.commands ≡ length l.fn.commands;
  library : LibraryKeeps g.L.Library.told g.L.Library.replied IsLength l.fn.library l.library;
  once : RepliesOnly (g.L.Library.replied l.fn.library) (g.L.Library.replied l.library) (IsKeptAmong (map string_bytes l.names) (take l.item-index l.commands));
  faults : g.L.Library.faults l.library ≡ g.L.Library.faults l.fn.library;
}
