use Rattle.std.proofs.Common.{[], ◌∷◌}
use Rattle.ppq_engine.specs.ppq_script.Words.{words}
use Rattle.ppq_engine.specs.ppq_script.declared.command.Command.TheVariants.{Size}
use Rattle.ppq_engine.proofs.Orders.{laws_of}
use Rattle.ppq_answer.proofs.Concluding.{concludes, concludes-stop}
use Rattle.ppq_answer.proofs.answer.conclude.Goals as goal

pub returns-in-Err : goal.returns-in-Err
returns-in-Err g c = record { serves = c.in-Err.ensures; put = tt }

pub returns-in-Ok-put-clause-serves : goal.returns-in-Ok-put-clause-serves
returns-in-Ok-put-clause-serves g c = let w = words g.R.PartialEq g.R.PartialOrd g.R.Ord g.R.Record g.R.Fields in
    let laws = laws_of w c.record_laws.ensures.order c.record_laws.ensures.same in
    let told = g.O.Sink.told in
    let faults = g.O.Sink.faults in
    let old = c.args.machine.now in
    let new = c.execute.new.machine in
    concludes w laws c.args.world.now.form (told c.args.out.now) (told c.execute.new.out) (told c.put.new.out) old.queue new.queue old.desk.gathered new.desk.gathered c.put.new.self (Size ∷ []) c.in-Ok.ensures.done
    (faults c.args.out.now) (faults c.execute.new.out) (faults c.put.new.out) c.in-Ok.ensures.sound c.in-Ok.ensures.counts.stays tt c.in-Ok-put.ensures.empty c.in-Ok-put.ensures.all c.in-Ok-put.ensures.cause.ok

pub returns-in-Err-put-clause-serves : goal.returns-in-Err-put-clause-serves
returns-in-Err-put-clause-serves g c = let w = words g.R.PartialEq g.R.PartialOrd g.R.Ord g.R.Record g.R.Fields in
    let laws = laws_of w c.record_laws.ensures.order c.record_laws.ensures.same in
    let told = g.O.Sink.told in
    let faults = g.O.Sink.faults in
    let old = c.args.machine.now in
    let new = c.execute.new.machine in
    concludes-stop w laws c.args.world.now.form (told c.args.out.now) (told c.execute.new.out) (told c.put.new.out) old.queue new.queue old.desk.gathered new.desk.gathered c.put.new.self (Size ∷ []) c.in-Ok.ensures.done
    (faults c.args.out.now) (faults c.execute.new.out) (faults c.put.new.out) c.in-Ok.ensures.sound c.in-Ok.ensures.counts.stays c.put.ensures.part c.put.ensures.cause.later c.in-Err-put.ensures.cause.failed
