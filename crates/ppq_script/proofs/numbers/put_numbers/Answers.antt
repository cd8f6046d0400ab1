use Rattle.std.proofs.Common.{arith, rules, take}
use Rattle.ppq_script.specs.Lines.{fields_of}
use Rattle.ppq_script.proofs.NumbersOf.{numbers_next, numbers_none}
use Rattle.ppq_script.proofs.numbers.put_numbers.Goals as goal

pub returns-in_err-one : goal.returns-in_err-one
returns-in_err-one c =
    let l = c.loop-i in
    rw c.from_residual.ensures (numbers_none l.i _ (take l.i l.numbers) (fields_of c.args.rest.now) (fields_of l.behind.now) (omega arith) l.invariant.read c.in_err-one.ensures)

pub loop-i-preserved : goal.loop-i-preserved
loop-i-preserved c =
    let l = c.loop-i in
    record {
      read = numbers_next l.i c.in_ok-one.one l.numbers (fields_of c.args.rest.now) (fields_of l.behind.now) (fields_of c.in_ok-one.after.now) (omega arith) l.invariant.read c.in_ok-one.ensures;
      long = search rules;
    }
