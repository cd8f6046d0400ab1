use Rattle.std.proofs.Common.{refl, sym, subst}
use Rattle.ppq_answer.specs.Answers.{FinishesAs}
use Rattle.ppq_answer.specs.declared.halt.Halt.{Halt}
use Rattle.ppq_answer.specs.declared.outcome.Outcome.TheVariants.{Ended}
use Rattle.ppq_answer.proofs.ending.finish.Goals as goal

pub returns-in-Stopped : goal.returns-in-Stopped
returns-in-Stopped g c =
    let told = g.O.Sink.told in
    let faults = g.O.Sink.faults in
    let P : Halt → Type 0 = λ h. FinishesAs (told c.args.out.now) (told c.put_stopped.new.out) (faults c.args.out.now) (faults c.put_stopped.new.out) c.args.gathered.now h (Ended c.put_stopped.result) in
    subst P (sym c.in-Stopped.is) (c.put_stopped.result, refl, c.put_stopped.ensures.puts)
