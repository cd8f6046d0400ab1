use mathlib.Core.List.{reverse-reverse}
use Rattle.std.proofs.Common.{◌≡◌, All, length, reverse, sym, ap, ◌∙◌, subst, arith}
use Rattle.std.proofs.lemmas.List.{length-reverse}
use Rattle.ppq_pass.specs.ppq_budget.Sizes.{heap_of}
use Rattle.ppq_pass.specs.ppq_heap.Heap.{Contents}
use Rattle.ppq_session.specs.Equipped.{MayEquip, Equipped, ArePasses}
use Rattle.ppq_session.proofs.Equipping.{all_turned}
use Rattle.ppq_session.proofs.Opening.{may_equip, is_bulk, handed_out}
use Rattle.ppq_session.proofs.begin.deal_out.Given as given
use Rattle.ppq_session.proofs.begin.deal_out.Goals as goal

pub equip-requires : goal.equip-requires
equip-requires g c =
    let p = c.args.parts in
    let o = c.requires.opened.1 in
    let apart = c.into_parts-heaps.ensures in
    let turned = c.reverse.ensures in
    let cap = λ (h : Contents g.row.R.Denot). h.cap ≡ heap_of p.sizes in
    let many : length c.reverse.new.self.items ≡ p.sizes.workers = ap length turned.items ∙ length-reverse c.into_parts-heaps.result.0.items ∙ ap length apart.heaps ∙ o.whole.queue.shares in
    record {
      none = c.requires.serve.no_pass;
      room = omega (arith, many, c.requires.serve.passes_room);
      caps = subst (All cap) (sym turned.items) (all_turned cap c.into_parts-heaps.result.0.items (subst (All cap) (sym apart.heaps) (λ k d h. apart.known.caps k d h ∙ o.whole.queue.cap)));
      outfits_are = c.requires.serve.outfits_are ∙ sym many;
      each = c.requires.serve.each;
      may = subst (λ n. MayEquip g.S.Slot.shown g.R.Record.WIDTH p.sizes n p.body.lanes.idle c.args.session) (sym many) (may_equip g.S.Slot.shown g.R.Ord.cmp g.R.Record.record_of g.R.Record.WIDTH c.requires.opened.0 p c.args.session o);
    }

equipped : (g : given.Over) (c : goal.After-equip g) → Equipped c.args.parts.sizes c.args.parts.sizes.workers c.args.parts.body.lanes.idle c.equip.new.idle c.args.session c.equip.new.session
equipped g c =
    let p = c.args.parts in
    let many : length c.reverse.new.self.items ≡ p.sizes.workers =
    ap length c.reverse.ensures.items ∙ length-reverse c.into_parts-heaps.result.0.items ∙ ap length c.into_parts-heaps.ensures.heaps ∙ c.requires.opened.1.whole.queue.shares
    in
    subst (λ n. Equipped p.sizes n p.body.lanes.idle c.equip.new.idle c.args.session c.equip.new.session) many c.equip.ensures.made.equipped

pub of-bulk-requires-after_bounds : goal.of-bulk-requires-after_bounds
of-bulk-requires-after_bounds g c = λ κs bounds.
    let p = c.args.parts in
    let o = c.requires.opened.1 in
    let apart = c.into_parts-heaps.ensures in
    let heaps = c.into_parts-heaps.result.0 in
    let many : length heaps.items ≡ p.sizes.workers = ap length apart.heaps ∙ o.whole.queue.shares in
    is_bulk g.S.Slot.shown g.R.Ord.cmp g.R.Record.record_of g.R.Record.WIDTH c.requires.opened.0 p c.args.session c.equip.new.session c.equip.new.idle c.equip.new.heaps c.into_parts-heaps.result.1 c.args.brought o (equipped g c) c.equip.ensures.emptied
    (omega (arith, many, c.equip.ensures.capacity, c.reverse.ensures.capacity, heaps.ok)) (apart.leaves ∙ o.whole.queue.shares) c.requires.serve.none_brought c.requires.serve.brought_room

pub returns : goal.returns
returns g c = λ q o.
    let p = c.args.parts in
    let heaps = c.into_parts-heaps.result.0.items in
    let in_order : reverse c.reverse.new.self.items ≡ p.heaps.heaps = ap reverse c.reverse.ensures.items ∙ reverse-reverse heaps ∙ c.into_parts-heaps.ensures.heaps in
    let all = subst (λ l. ArePasses p.sizes l c.args.session c.equip.new.passes.items) in_order c.equip.ensures.made.passes_are in
    handed_out g.S.Slot.shown g.R.Ord.cmp g.R.Record.record_of g.R.Record.WIDTH q p c.args.session c.equip.new.session c.equip.new.idle c.equip.new.heaps c.into_parts-heaps.result.1 c.args.brought o (equipped g c.before)
    c.equip.new.passes.items c.of-bulk.result c.of-bulk.ensures all
