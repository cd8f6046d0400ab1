use Rattle.std.proofs.Common.{◌∷◌, [], length, refl, sym, ap, ◌∙◌, subst, arith, length-append}
use Rattle.ppq_spill.specs.Moves.{DrewSlots}
use Rattle.ppq_spill.proofs.Moving.{draws_none, draws_more}
use Rattle.ppq_spill.proofs.slots.draw_slots.Goals as goal

pub loop-supply-init : goal.loop-supply-init
loop-supply-init g c =
    let now = g.P.Supply.stock c.args.supply.now in
    record {
      drew = subst (DrewSlots g.S.Slot.shown g.R.Record.WIDTH now now) (sym c.empty-berths.ensures) (draws_none g.S.Slot.shown g.R.Record.WIDTH now);
      within = omega (arith, ap length c.empty-berths.ensures);
      home = refl;
    }

pub loop-supply-preserved : goal.loop-supply-preserved
loop-supply-preserved g c =
    let i = c.loop-supply.invariant in
    let old = g.P.Supply.stock c.args.supply.now in
    let now = g.P.Supply.stock c.loop-supply.supply in
    let next = g.P.Supply.stock c.draw_slot.new.self in
    let more = draws_more g.S.Slot.shown g.R.Record.WIDTH old now next c.loop-supply.berths c.in-Some.berth i.drew c.in-Some.ensures.drawn c.in-Some.ensures.slot in
    record {
      drew = subst (DrewSlots g.S.Slot.shown g.R.Record.WIDTH old next) (sym c.push_back.ensures) more;
      within = omega (arith, c.loop-supply-test.true, c.len.ensures, ap length c.push_back.ensures, length-append c.loop-supply.berths (c.in-Some.berth ∷ []));
      home = c.draw_slot.ensures.home ∙ i.home;
    }
