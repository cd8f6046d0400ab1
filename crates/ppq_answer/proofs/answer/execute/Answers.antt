use Rattle.ppq_engine.specs.ppq_script.Words.{words}
use Rattle.ppq_engine.proofs.Orders.{laws_of}
use Rattle.ppq_answer.proofs.Serving.{lend-serves}
use Rattle.ppq_answer.proofs.answer.execute.Goals as goal

pub returns : goal.returns
returns g c = let w = words g.R.PartialEq g.R.PartialOrd g.R.Ord g.R.Record g.R.Fields in
    let laws = laws_of w c.record_laws.ensures.order c.record_laws.ensures.same in
    let old = c.args.machine.now in
    let new = c.lend-done.new.self in
    lend-serves w laws c.args.world.now.form (g.O.Sink.told c.args.out.now) (g.O.Sink.told c.lend-done.new.out) old.queue new.queue old.desk.gathered new.desk.gathered c.args.command c.requires.lends
    (g.O.Sink.faults c.args.out.now) (g.O.Sink.faults c.lend-done.new.out) c.known.ensures.counted c.known.ensures.written c.lend-done.result c.lend-done.ensures
