use Rattle.std.proofs.Common.{◌≡◌, length, take}
use Rattle.ppq_engine.proofs.print.gather_fields.Given as goal

abbrev pub invariant-loop-i : goal.invariant-loop-i
invariant-loop-i g l = record {
  first : take l.i l.numbers ≡ take l.i (g.R.Fields.fields_of l.item);
  long : length l.numbers ≡ 8;
}
