use Rattle.std.proofs.Common.{◌≡◌, length, take, Some}
use Rattle.ppq_script.specs.Lines.{fields_of}
use Rattle.ppq_script.specs.Command.{numbers_of}
use Rattle.ppq_script.proofs.numbers.put_numbers.Given as goal

abbrev pub invariant-loop-i : goal.invariant-loop-i
invariant-loop-i l = record {
  read : numbers_of l.i (fields_of l.fn.rest) ≡ Some (take l.i l.numbers, fields_of l.behind);
  long : length l.numbers ≡ length l.fn.numbers;
}
