use Rattle.std.proofs.Common.{◌+◌, All, length, ap, ◌∙◌, subst}
use Rattle.std.proofs.lemmas.List.Elements.{All-tail}
use Rattle.ppq_fetch.specs.ppq_array.Owner.{HasBlock}
use Rattle.ppq_spill.proofs.Moving.{gives_back}
use Rattle.ppq_spill.proofs.writing.release_run.Goals as goal

pub loop-buf-preserved : goal.loop-buf-preserved
loop-buf-preserved g c =
    let i = c.loop-buf.invariant in
    let rest = c.take_spent.new.self.spent in
    let old = g.P.Supply.stock c.args.supply.now in
    let e = c.in-Some.ensures.spent in
    let next = gives_back old (g.P.Supply.stock c.loop-buf.supply) (g.P.Supply.stock c.give_buffer.new.supply) (length c.args.run.spent) (length rest) i.stock (i.room ∙ ap (λ bs. old.buffer_room + length bs) e) c.requires.room i.sure c.give_buffer.ensures.back in
    record {
      stock = next.0;
      room = next.1;
      sure = next.2;
      blocks = All-tail (HasBlock old.block) c.in-Some.buf rest (subst (All (HasBlock old.block)) e i.blocks);
      home = c.give_buffer.ensures.home ∙ i.home;
    }
