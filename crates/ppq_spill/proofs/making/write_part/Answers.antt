use Rattle.std.proofs.Common.{◌≡◌, ◌*◌, All, length, ap, sym, ◌∙◌, subst, arith}
use Rattle.std.proofs.lemmas.List.Elements.{All-head}
use Rattle.ppq_fetch.specs.ppq_array.Supply.{IsSlot}
use Rattle.ppq_fetch.specs.ppq_array.Owner.{HasBlock}
use Rattle.ppq_spill.specs.Writing.{BlockStored}
use Rattle.ppq_spill.proofs.Idle.{buffer_back}
use Rattle.ppq_spill.proofs.Parts.{part_written, part_failed}
use Rattle.ppq_spill.proofs.making.write_part.Goals as goal

pub write_block-buf-requires-clause-may : goal.write_block-buf-requires-clause-may
write_block-buf-requires-clause-may g c κs within =
    let may = c.requires.may in
    let s = g.P.Supply.stock c.args.supply.now in
    let items : c.put_records.new.buf.items ≡ c.args.records.now = ap (λ b. b.items) c.put_records.ensures in
    let block : c.put_records.new.buf.block ≡ s.block = ap (λ b. b.block) c.put_records.ensures ∙ ap (λ b. b.block) c.clear.ensures ∙ All-head (HasBlock {R = g.row.R.Denot} s.block) c.unwrap-buf.result c.pop_front.new.self (subst (All (HasBlock s.block)) (rw c.unwrap-buf.ensures at c.pop_front.ensures.first) may.blocks) in
    record {
      none_lifted = ap (λ a. a.lifted) may.shape;
      some = omega (arith, ap length items, may.some);
      settled = ap (λ b. b.raw) c.put_records.ensures;
      within = omega (arith, ap length items, block, may.fit);
      fits = subst (λ n. IsSlot (n * g.R.Record.WIDTH) (g.S.Slot.shown c.next_slot-berth.result.slot)) (sym block) c.next_slot-berth.ensures.slot;
      room = may.room;
      few = omega (arith, ap length items, may.few);
    }

pub returns-in-None-clause-idle : goal.returns-in-None-clause-idle
returns-in-None-clause-idle g c =
    buffer_back (g.P.Supply.stock c.args.supply.now).block c.args.idle.now c.pop_front.new.self c.push_back.new.self c.unwrap-buf.result c.write_block-buf.result.0 (rw c.unwrap-buf.ensures at c.pop_front.ensures.first) c.requires.may.blocks
    (ap (λ b. b.block) c.write_block-buf.ensures.buf ∙ ap (λ b. b.block) c.put_records.ensures ∙ ap (λ b. b.block) c.clear.ensures) c.push_back.ensures

pub returns-in-Some-clause-idle : goal.returns-in-Some-clause-idle
returns-in-Some-clause-idle g c =
    buffer_back (g.P.Supply.stock c.args.supply.now).block c.args.idle.now c.pop_front.new.self c.push_back.new.self c.unwrap-buf.result c.write_block-buf.result.0 (rw c.unwrap-buf.ensures at c.pop_front.ensures.first) c.requires.may.blocks
    (ap (λ b. b.block) c.write_block-buf.ensures.buf ∙ ap (λ b. b.block) c.put_records.ensures ∙ ap (λ b. b.block) c.clear.ensures) c.push_back.ensures

pub returns-in-None-clause-outcome : goal.returns-in-None-clause-outcome
returns-in-None-clause-outcome g c =
    let shown = g.S.Slot.shown in
    let w = g.R.Record.WIDTH in
    let f = g.R.Record.record_of in
    let s = g.P.Supply.stock c.args.supply.now in
    let may = c.requires.may in
    let next = c.next_slot-berth in
    let b = next.result in
    let items : c.put_records.new.buf.items ≡ c.args.records.now = ap (λ b. b.items) c.put_records.ensures in
    let put = subst (λ xs. BlockStored f w shown b.slot xs c.args.making.now.made c.write_block-buf.new.array) items (rw c.in-None.is at c.write_block-buf.ensures.outcome) in
    part_written shown f w s.block (s.block * w) c.args.records.now c.args.making.now.made c.write_block-buf.new.array c.args.making.now.berths next.new.berths b s (g.P.Supply.stock next.new.supply)
    next.ensures.moved next.ensures.room next.ensures.rest next.ensures.slot next.ensures.sizes may.shape put may.some may.fit

pub returns-in-Some-clause-outcome : goal.returns-in-Some-clause-outcome
returns-in-Some-clause-outcome g c =
    let shown = g.S.Slot.shown in
    let w = g.R.Record.WIDTH in
    let s = g.P.Supply.stock c.args.supply.now in
    let next = c.next_slot-berth in
    part_failed shown s.block (s.block * w) c.args.making.now.made c.write_block-buf.new.array c.args.making.now.berths next.new.berths next.result c.in-Some.berth s (g.P.Supply.stock next.new.supply) (g.P.Supply.stock c.free_slot.new.supply) c.number-number.result
    next.ensures.moved next.ensures.room next.ensures.rest c.requires.may.takes_back next.ensures.sizes (rw c.in-Some.is at c.write_block-buf.ensures.outcome) c.free_slot.ensures.back c.number-number.ensures
