use Rattle.std.proofs.Common.{◌≡◌, ◌≤◌, take}
use Rattle.std.specs.Prelude.{vec_len}
use Rattle.ppq_script.specs.Parts.{commands_of}
use Rattle.ppq_engine.specs.Pushes.{lines_in}
use Rattle.ppq_engine.proofs.collected.Collected.fill.Given as goal

abbrev pub invariant-loop-i : goal.invariant-loop-i
invariant-loop-i g l = record {
  lines : l.self.items.items ≡ lines_in (commands_of (take l.i l.lines));
  few : vec_len l.self.items ≤ l.i;
  most : l.self.most ≡ l.fn.self.most;
}
