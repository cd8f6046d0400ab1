use Rattle.std.proofs.Common.{All, length, ap, ap₂, ◌∙◌, subst, arith}
use Rattle.std.proofs.lemmas.List.Elements.{All-tail}
use Rattle.ppq_array.specs.Run.{Run, run_of}
use Rattle.ppq_array.specs.Supply.{Stock}
use Rattle.ppq_array.specs.Owner.{HasBlock}
use Rattle.ppq_fetch.proofs.Consuming.{given_one}
use Rattle.ppq_fetch.proofs.take.give_spent.Goals as goal

pub loop-buf-preserved : goal.loop-buf-preserved
loop-buf-preserved g c =
    let i = c.loop-buf.invariant in
    let old = g.P.Supply.stock c.args.supply.now in
    let now = g.P.Supply.stock c.loop-buf.supply in
    let e = c.in-Some.ensures.spent in
    let back = c.give_buffer.ensures.back in
    record {
      run = ap₂ (λ l t. run_of l t c.take_spent.new.self.spent) (c.take_spent.ensures.live ∙ ap (λ (r : Run g.row.R.Denot). r.live) i.run) (c.take_spent.ensures.taken ∙ ap (λ (r : Run g.row.R.Denot). r.taken) i.run);
      given = given_one old now (g.P.Supply.stock c.give_buffer.new.supply) i.given back;
      room = omega (arith, i.room, ap length e, ap (λ (s : Stock). s.buffer_room) back.rest, c.requires.room);
      blocks = All-tail (HasBlock old.block) c.in-Some.buf c.take_spent.new.self.spent (subst (All (HasBlock old.block)) e i.blocks);
      home = c.give_buffer.ensures.home ∙ i.home;
    }
