use Rattle.std.proofs.Common.{All, sym, subst}
use Rattle.ppq_array.specs.Owner.{HasBlock}
use Rattle.ppq_array.proofs.Noted.{all_left}
use Rattle.ppq_fetch.proofs.Consuming.{run_consumed}
use Rattle.ppq_fetch.proofs.take.consume_run.Goals as goal

pub give_spent-requires-clause-blocks : goal.give_spent-requires-clause-blocks
give_spent-requires-clause-blocks g c =
    let m = c.consume.new.self in
    let b = (g.P.Supply.stock c.args.supply.now).block in
    all_left (HasBlock b) m.spent m.live (subst (All (HasBlock b)) (sym c.consume.ensures.buffers) c.requires.blocks)

pub returns-clause-consumed : goal.returns-clause-consumed
returns-clause-consumed g c =
    run_consumed c.args.place c.args.run.now c.consume.new.self c.give_spent.new.run (g.P.Supply.stock c.args.supply.now) (g.P.Supply.stock c.give_spent.new.supply) c.consume.ensures.items c.consume.ensures.buffers c.give_spent.ensures.run c.give_spent.ensures.room c.give_spent.ensures.given
