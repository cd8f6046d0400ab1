use Rattle.std.proofs.Common.{◌+◌, ◌≤◌, length, map}
use Rattle.std.specs.Prelude.{string_bytes}
use Rattle.ppq_script.specs.Words.{words}
use Rattle.ppq_script.proofs.Takings.{Fronts}
use Rattle.ppq_script.proofs.reader.read.Given as goal

abbrev pub invariant-loop-rest : goal.invariant-loop-rest
invariant-loop-rest g l = record {
  fronts : Fronts (words g.R.PartialEq g.R.PartialOrd g.R.Ord g.R.Record g.R.Fields) l.workers l.fn.bytes l.line l.session l.rest l.commands.items (map string_bytes l.names.items);
  long : l.line + length l.rest ≤ 1048577;
  few : length l.names.items ≤ l.line;
}

abbrev pub decreases-loop-rest : goal.decreases-loop-rest
decreases-loop-rest g l = length l.rest
