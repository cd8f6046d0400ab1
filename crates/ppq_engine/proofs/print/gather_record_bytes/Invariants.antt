use Rattle.std.proofs.Common.{◌≡◌, ◌+◌, ◌*◌, ◌++◌, length, take}
use Rattle.std.specs.Prelude.{flat_map}
use Rattle.std.specs.Int.{w64, to_be_bytes}
use Rattle.ppq_engine.proofs.print.gather_record_bytes.Given as goal

abbrev pub invariant-loop-i : goal.invariant-loop-i
invariant-loop-i g l = record {
  text : l.gathered ≡ l.fn.gathered ++ flat_map (to_be_bytes w64) (take l.i (g.R.Fields.fields_of l.item));
  long : length l.gathered ≡ length l.fn.gathered + 8 * l.i;
}
