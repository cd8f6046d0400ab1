use Rattle.ppq_fetch.proofs.Consuming.{array_consumed}
use Rattle.ppq_fetch.proofs.take.consume_array.Goals as goal

pub returns : goal.returns
returns g c =
    let e = c.consume.ensures in
    array_consumed c.args.place c.args.array.now c.consume.new.self c.keep_spent.new.array c.args.idle.now c.keep_spent.new.idle e.rest e.items e.buffers e.run c.keep_spent.ensures.array c.keep_spent.ensures.idle
