use Rattle.std.proofs.Common.{◌≡◌, ◌-◌, sym, ap, ◌∙◌, arith}
use Rattle.ppq_extract.specs.ppq_array.Supply.{Stock}
use Rattle.ppq_queue.specs.Slots.{with_pool}
use Rattle.ppq_queue.proofs.berths.make_buffers.Goals as goal

pub loop-made-preserved : goal.loop-made-preserved
loop-made-preserved g c =
    let i = c.loop-made.invariant in
    let old = c.args.supply.now in
    let now = c.loop-made.supply in
    let next = c.give_buffer.new.supply in
    let back = c.give_buffer.ensures.back in
    let less : next.buffer_room ≡ now.buffer_room - 1 = ap (λ s. s.buffer_room) back.rest in
    record {
      stock = back.rest ∙ ap (λ (s : Stock). with_pool s next.sure_buffers (now.buffer_room - 1)) i.stock ∙ ap (λ k. with_pool old next.sure_buffers k) (sym less);
      sum = ap (λ h. h.1) c.give_buffer.ensures.home ∙ i.sum;
      given = omega (arith, less, i.given, c.requires.room);
    }
