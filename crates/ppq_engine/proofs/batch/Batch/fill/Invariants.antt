use Rattle.std.proofs.Common.{◌≡◌, ◌≤◌, take}
use Rattle.std.specs.Prelude.{vec_len}
use Rattle.ppq_script.specs.Parts.{commands_of}
use Rattle.ppq_engine.specs.Limits.{asks_in}
use Rattle.ppq_engine.proofs.batch.Batch.fill.Given as goal

abbrev pub invariant-loop-i : goal.invariant-loop-i
invariant-loop-i g l = record {
  asks : l.self.asks.items ≡ asks_in (commands_of (take l.i l.lines));
  few : vec_len l.self.asks ≤ l.i;
  lines : l.self.lines ≡ l.fn.self.lines;
}
