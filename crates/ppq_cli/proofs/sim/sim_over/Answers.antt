-- The device was made and the agenda was simulated over it, or no device was made.
use Rattle.std.proofs.Common.{◌≡◌, ◌+◌, refl, sym, ap, subst}
use Rattle.std.specs.Prelude.{false}
use Rattle.ppq_words.specs.ppq_budget.Sizes.{Numbers, AreInRange}
use Rattle.ppq_words.specs.SimReading.{as_sim_reading}
use Rattle.ppq_jobs.specs.ppq_engine.Refusal.{HasNoRoom}
use Rattle.ppq_jobs.specs.Asked.{count_of}
use Rattle.ppq_cli.specs.declared.plan.Plan.{Plan}
use Rattle.ppq_cli.specs.Budget.{plan_for, refusal_by}
use Rattle.ppq_cli.specs.DeviceFor.{HasShape, LacksDevice}
use Rattle.ppq_cli.specs.RunWords.{IsTriedOrRefusal}
use Rattle.ppq_cli.specs.SimWords.{sim_device, sim_blocks, sim_sizes, asked_by}
use Rattle.ppq_cli.proofs.Making.{begun_answer, ran_outside, run_made, run_unrefused}
use Rattle.ppq_cli.proofs.SimOver.{runs_out_of, above_load, unmade_sims}
use Rattle.ppq_cli.proofs.sim.sim_over.Goals as goal

pub returns-in-Ok : goal.returns-in-Ok
returns-in-Ok g c =
    let r = as_sim_reading c.args.arguments.now in
    let asked = asked_by r c.args.bytes in
    let plan = c.plan_for-plan.result in
    let planned : plan ≡ plan_for 24 r.given = c.plan_for-plan.ensures in
    let same : plan.sizes ≡ sim_sizes r = ap (λ (p : Plan). p.sizes) planned in
    let made = c.in-Ok.ensures.made in
    let e = c.run_agenda.ensures in
    let end = c.run_agenda.result.end in
    let told = g.L.Library.told c.args.library.now in
    let before = g.O.Sink.told c.args.out.now in
    let now = g.O.Sink.told c.run_agenda.new.out in
    record {
      done = λ is tells. e.done is (made.tell tells);
      part = λ tells. e.part (made.tell tells);
      before = e.nothing;
      full = λ is tells. runs_out_of told asked _ (sim_sizes r) before now plan.sizes same (e.full is (made.tell tells));
      above = λ is tells. above_load told asked _ (sim_sizes r) before now (subst AreInRange same c.device_for.ensures.range) (runs_out_of told asked _ (sim_sizes r) before now plan.sizes same (e.full is (made.tell tells)));
      full_any = λ is. subst (λ (n : Numbers). HasNoRoom n false (count_of asked + r.events)) same (e.full_any is);
      answer = subst (λ (p : Plan). IsTriedOrRefusal (refusal_by p) end) planned (begun_answer plan end made.enough e.answer);
      changed = e.changed;
      asks = e.asks;
      outside =
          ran_outside g.L.Library g.K.Rack g.O.Sink g.K.Slot.Slot.shown sim_device sim_blocks plan 24 r (subst (λ (p : Plan). HasShape p 24 (sim_blocks r)) (sym planned) (record { blocks = refl; size = refl })) c.args.rack.now c.device_for.new.rack c.run_agenda.result c.args.library.now
          c.run_agenda.new.library c.args.out.now c.run_agenda.new.out c.in-Ok.blocks.items made (run_made plan.sizes end e.answer) (run_unrefused plan.sizes end made.enough e.answer) e.blocks e.unfailed e.failed
          e.files e.remembers e.read e.write e.library_later (λ read written. e.library_stays read) e.later e.stays;
    }

pub returns-in-Err : goal.returns-in-Err
returns-in-Err g c =
    let r = as_sim_reading c.args.arguments.now in
    let shown = g.K.Slot.Slot.shown in
    let lacks = subst (λ (p : Plan). LacksDevice g.K.Rack shown 24 p r.device c.args.rack.now c.device_for.new.rack c.in-Err.ended) c.plan_for-plan.ensures c.in-Err.ensures.unmade in
    unmade_sims g.L.Library g.K.Rack g.O.Sink shown r c.args.bytes _ c.args.library.now c.args.rack.now c.device_for.new.rack c.args.out.now c.in-Err.ended lacks
