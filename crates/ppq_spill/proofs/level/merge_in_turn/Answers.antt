use Rattle.std.proofs.Common.{◌≡◌, ◌*◌, ℕ, [], length, refl, sym, ap₂, ◌∙◌, subst, arith}
use Rattle.std.proofs.lemmas.List.Elements.{All-from_recursion}
use Rattle.ppq_fetch.specs.ppq_array.External.{External}
use Rattle.ppq_spill.specs.Making.{table_of, BetweenBatches, MergedOn}
use Rattle.ppq_spill.proofs.Rounds.{MergedOn-none, MergedOn-trans, MergeFailed-trans, SameTools-trans}
use Rattle.ppq_spill.proofs.level.merge_in_turn.Goals as goal

pub loop-last-init : goal.loop-last-init
loop-last-init g c =
    record {
      merged = MergedOn-none g.R.Ord.cmp g.R.Record.record_of g.R.Record.WIDTH c.args.bench.now.workers g.S.Slot.shown (table_of c.args.inputs.now c.args.lanes.now c.args.making.now (g.P.Supply.stock c.args.supply.now)) c.requires.may.ready;
      end = λ e. absurd (omega (arith, e));
      home = refl;
      tools = record { jobs = refl; job_room = refl; batch = refl; batch_room = refl; workers = refl; same_places = refl };
    }

pub merge_batch-requires-clause-may : goal.merge_batch-requires-clause-may
merge_batch-requires-clause-may g c κs within =
    let i = c.loop-last.invariant in
    let t = i.tools in
    record {
      eight = i.merged.merging.eight ∙ c.requires.may.eight;
      ready = subst (λ k. BetweenBatches g.S.Slot.shown g.R.Record.WIDTH k (table_of c.loop-last.inputs c.loop-last.lanes c.loop-last.making (g.P.Supply.stock c.loop-last.supply))) (sym t.workers) i.merged.ready;
      worker = omega (arith, t.workers, c.requires.may.worker);
      bench = omega (arith, t.same_places, c.requires.may.bench);
      batch = t.batch ∙ c.requires.may.batch ∙ ap₂ (λ (a b : ℕ). a * b) (sym t.workers) (sym i.merged.merging.rest.block);
    }

pub loop-last-preserved : goal.loop-last-preserved
loop-last-preserved g c =
    let i = c.loop-last.invariant in
    let old = table_of c.args.inputs.now c.args.lanes.now c.args.making.now (g.P.Supply.stock c.args.supply.now) in
    let here = table_of c.loop-last.inputs c.loop-last.lanes c.loop-last.making (g.P.Supply.stock c.loop-last.supply) in
    let new = table_of c.merge_batch.new.inputs c.merge_batch.new.lanes c.merge_batch.new.making (g.P.Supply.stock c.merge_batch.new.supply) in
    let one = c.in-Ok.ensures.outcome in
    let on = subst (λ k. MergedOn g.R.Ord.cmp g.R.Record.record_of g.R.Record.WIDTH k g.S.Slot.shown here new) i.tools.workers one.merged in
    record {
      merged = MergedOn-trans g.R.Ord.cmp g.R.Record.record_of g.R.Record.WIDTH c.args.bench.now.workers g.S.Slot.shown old here new i.merged on;
      end = one.end;
      home = c.merge_batch.ensures.home ∙ i.home;
      tools = SameTools-trans c.args.lanes.now c.loop-last.lanes c.merge_batch.new.lanes c.args.bench.now.workers c.loop-last.bench.workers c.merge_batch.new.bench.workers (length c.args.bench.now.places) (length c.loop-last.bench.places) (length c.merge_batch.new.bench.places) i.tools c.merge_batch.ensures.tools;
    }

pub loop-last-smaller : goal.loop-last-smaller
loop-last-smaller g c = omega (arith, c.in-Ok.ensures.outcome.count_is, c.in-Ok.ensures.outcome.end, c.loop-last-test.true)

pub returns-in-Err-clause-outcome : goal.returns-in-Err-clause-outcome
returns-in-Err-clause-outcome g c =
    let i = c.loop-last.invariant in
    let old = table_of c.args.inputs.now c.args.lanes.now c.args.making.now (g.P.Supply.stock c.args.supply.now) in
    let here = table_of c.loop-last.inputs c.loop-last.lanes c.loop-last.making (g.P.Supply.stock c.loop-last.supply) in
    let new = table_of c.merge_batch.new.inputs c.merge_batch.new.lanes c.merge_batch.new.making (g.P.Supply.stock c.merge_batch.new.supply) in
    MergeFailed-trans g.R.Ord.cmp g.R.Record.record_of g.R.Record.WIDTH c.args.bench.now.workers g.S.Slot.shown old here new c.in-Err.fault i.merged c.in-Err.ensures.outcome

pub returns-in-Err-clause-tools : goal.returns-in-Err-clause-tools
returns-in-Err-clause-tools g c =
    SameTools-trans c.args.lanes.now c.loop-last.lanes c.merge_batch.new.lanes c.args.bench.now.workers c.loop-last.bench.workers c.merge_batch.new.bench.workers (length c.args.bench.now.places) (length c.loop-last.bench.places) (length c.merge_batch.new.bench.places) c.loop-last.invariant.tools c.merge_batch.ensures.tools

pub returns-clause-outcome : goal.returns-clause-outcome
returns-clause-outcome g c = (c.loop-last.invariant.merged, c.see_emptied.ensures)

pub see_emptied-requires-clause-lifted : goal.see_emptied-requires-clause-lifted
see_emptied-requires-clause-lifted g c = All-from_recursion (λ (a : External g.row.S.Denot g.row.R.Denot). a.lifted ≡ []) c.loop-last.inputs c.loop-last.invariant.merged.ready.may.none_lifted

pub see_emptied-requires-clause-spent : goal.see_emptied-requires-clause-spent
see_emptied-requires-clause-spent g c = All-from_recursion (λ (a : External g.row.S.Denot g.row.R.Denot). a.loaded.spent ≡ []) c.loop-last.inputs c.loop-last.invariant.merged.ready.may.sources.external_spent
