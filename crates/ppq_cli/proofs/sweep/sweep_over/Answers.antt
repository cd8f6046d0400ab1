-- The device was made and the graph was swept over it, or no device was made.
use Rattle.std.proofs.Common.{◌≡◌, refl, sym, ap, subst}
use Rattle.std.specs.Prelude.{false}
use Rattle.ppq_words.specs.ppq_budget.Sizes.{Numbers}
use Rattle.ppq_words.specs.SweepReading.{as_sweep_reading}
use Rattle.ppq_jobs.specs.ppq_engine.Refusal.{HasNoRoom}
use Rattle.ppq_jobs.specs.Edges.{edge_count}
use Rattle.ppq_cli.specs.declared.plan.Plan.{Plan}
use Rattle.ppq_cli.specs.Budget.{half_plan_for}
use Rattle.ppq_cli.specs.DeviceFor.{HasShape, LacksDevice}
use Rattle.ppq_cli.specs.SweepOver.{IsSweptOrRefusal}
use Rattle.ppq_cli.specs.SweepWords.{sweep_device, sweep_blocks, sweep_sizes, wanted_by}
use Rattle.ppq_cli.proofs.Making.{ran_outside}
use Rattle.ppq_cli.proofs.SweepOver.{swept_made, swept_unrefused, swept_answer, bad_counted, unmade_sweeps}
use Rattle.ppq_cli.proofs.sweep.sweep_over.Goals as goal

pub returns-in-Ok : goal.returns-in-Ok
returns-in-Ok g c =
    let r = as_sweep_reading c.args.arguments.now in
    let plan = c.half_plan_for-plan.result in
    let planned : plan ≡ half_plan_for 16 r.given = c.half_plan_for-plan.ensures in
    let same : plan.sizes ≡ sweep_sizes r = ap (λ (p : Plan). p.sizes) planned in
    let made = c.in-Ok.ensures.made in
    let e = c.run_graph.ensures in
    let end = c.run_graph.result.end in
    record {
      done = λ is tells. e.done is (made.tell tells);
      part = λ tells. e.part (made.tell tells);
      before = e.nothing;
      full = λ is. subst (λ (n : Numbers). HasNoRoom n false (edge_count (wanted_by r c.args.bytes))) same (e.full is);
      answer = subst (λ (p : Plan). IsSweptOrRefusal p end) planned (swept_answer plan end made.enough e.answer);
      bad = e.bad;
      good = e.good;
      changed = e.changed;
      asks = e.asks;
      outside =
          ran_outside g.L.Library g.K.Rack g.O.Sink g.K.Slot.Slot.shown sweep_device sweep_blocks plan 16 r (subst (λ (p : Plan). HasShape p 16 (sweep_blocks r)) (sym planned) (record { blocks = refl; size = refl })) c.args.rack.now c.device_for.new.rack c.run_graph.result c.args.library.now
          c.run_graph.new.library c.args.out.now c.run_graph.new.out c.in-Ok.blocks.items made (swept_made plan.sizes end e.answer) (swept_unrefused plan.sizes end made.enough e.answer (λ at is. bad_counted (g.L.Library.told c.args.library.now) (g.L.Library.replied c.run_graph.new.library) (wanted_by r c.args.bytes) at (e.bad at is))) e.blocks e.unfailed e.failed
          e.files e.remembers e.read e.write e.library_later (λ read written. e.library_stays read) e.later e.stays;
    }

pub returns-in-Err : goal.returns-in-Err
returns-in-Err g c =
    let r = as_sweep_reading c.args.arguments.now in
    let shown = g.K.Slot.Slot.shown in
    let lacks = subst (λ (p : Plan). LacksDevice g.K.Rack shown 16 p r.device c.args.rack.now c.device_for.new.rack c.in-Err.ended) c.half_plan_for-plan.ensures c.in-Err.ensures.unmade in
    unmade_sweeps g.L.Library g.K.Rack g.O.Sink shown r c.args.bytes c.args.library.now c.args.rack.now c.device_for.new.rack c.args.out.now c.in-Err.ended lacks
