use Rattle.std.proofs.Common.{◌≡◌, ◌++◌, All, length, map, take, drop, min, [], refl, sym, ap, ◌∙◌, subst, arith}
use Rattle.std.specs.Prelude.{vec_capacity}
use Rattle.std.specs.List.{AllZip}
use Rattle.std.proofs.lemmas.List.Elements.{All-from_recursion}
use Rattle.ppq_fetch.proofs.ppq_record.Fronts.{ranks}
use Rattle.ppq_fetch.specs.ppq_array.External.{External, size_of}
use Rattle.ppq_fetch.specs.Fetching.{state, count_in, MayFetch}
use Rattle.ppq_spill.specs.Making.{table_of, table, MergeFailed}
use Rattle.ppq_spill.specs.Grouping.{CanEnd, IsGood, GroupStopped, appended, buf_of, items_in}
use Rattle.ppq_spill.specs.Staging.{MayStage, Staged, Takes}
use Rattle.ppq_spill.proofs.Idle.{first_block}
use Rattle.ppq_spill.proofs.Merges.{some_idle}
use Rattle.ppq_spill.proofs.Rounds.{batch_not_read, SameTools-trans}
use Rattle.ppq_spill.proofs.Grouped.{Ran}
use Rattle.ppq_spill.proofs.Groupwise.{lent_back}
use Rattle.ppq_spill.proofs.Turned.{AtTurn, takes_parts, turn_first, turn_block, turn_write, turn_stage, turn_end, turn_run, turn_take, turn_can, turn_few_slots, turn_few_stored, turn_few_records, turn_few_idle, turn_free, turn_stopped, turn_next, turn_not_read}
use Rattle.ppq_spill.proofs.turns.merge_beside.Goals as goal

pub at-requires : goal.at-requires
at-requires g c =
    let may = c.requires.may in
    let stock = g.P.Supply.stock c.args.supply.now in
    some_idle g.S.Slot.shown g.R.Record.WIDTH c.args.bench.now.workers (state [] c.args.inputs.now c.args.lanes.now.idle stock) may.ready.may.sources may.eight may.ready.buffers may.worker

pub returns-in-Err-clause-outcome : goal.returns-in-Err-clause-outcome
returns-in-Err-clause-outcome g c =
    batch_not_read g.R.Ord.cmp g.R.Record.record_of g.R.Record.WIDTH c.args.bench.now.workers g.S.Slot.shown (table_of c.args.inputs.now c.args.lanes.now c.args.making.now (g.P.Supply.stock c.args.supply.now)) c.take_batch.new.inputs c.take_batch.new.lanes.idle (g.P.Supply.stock c.take_batch.new.supply) c.in-Err.fault c.requires.may.ready (record { sources = c.take_batch.ensures.sources; failed = c.in-Err.ensures.failed; parts = c.in-Err.ensures.parts })

pub loop-count-init : goal.loop-count-init
loop-count-init g c =
    let cmp = g.R.Ord.cmp in
    let b = g.R.Record.bytes_of in
    let f = g.R.Record.record_of in
    let w = g.R.Record.WIDTH in
    let shown = g.S.Slot.shown in
    let workers = c.args.bench.now.workers in
    let places = length c.args.bench.now.places in
    let most = length c.args.lanes.now.batch.items in
    let stock0 = g.P.Supply.stock c.args.supply.now in
    let o = table_of c.args.inputs.now c.args.lanes.now c.args.making.now stock0 in
    let new = c.take_batch.new in
    let is = c.in-Ok.ensures in
    record {
      turn = turn_first cmp b f w workers places most shown o new.inputs new.lanes.idle (g.P.Supply.stock new.supply) new.lanes.batch.items c.in-Ok.count c.requires.may c.take_batch.ensures.tools.batch
          (record { within = is.within; taken = is.taken; all = is.all ∙ ap (λ k. min k (count_in [] c.args.inputs.now)) (sym c.take_batch.ensures.tools.batch); may = is.may });
      few = c.requires.few;
      home = c.take_batch.ensures.home;
      tools = c.take_batch.ensures.tools;
      no_job = c.requires.no_job;
      job_room = refl;
    }

pub stage-requires : goal.stage-requires
stage-requires g c =
    let cmp = g.R.Ord.cmp in
    let b = g.R.Record.bytes_of in
    let f = g.R.Record.record_of in
    let w = g.R.Record.WIDTH in
    let shown = g.S.Slot.shown in
    let workers = c.args.bench.now.workers in
    let places = length c.args.bench.now.places in
    let most = length c.args.lanes.now.batch.items in
    let stock0 = g.P.Supply.stock c.args.supply.now in
    let o = table_of c.args.inputs.now c.args.lanes.now c.args.making.now stock0 in
    let l = c.loop-count in
    let i = l.invariant in
    let stock = g.P.Supply.stock l.supply in
    let turn = i.turn in
    let block : c.block-block.result ≡ stock.block = c.block-block.ensures ∙ first_block stock0.block c.args.lanes.now.idle c.at.result.now c.requires.may.ready.may.sources.idle c.at.ensures
    ∙ sym (turn_block cmp b f w workers places most shown o l.inputs l.making.made l.making.berths l.lanes.idle stock l.lanes.batch.items l.count turn ∙ turn.merged.merging.rest.block) in
    record {
      may = subst (λ k. MayStage shown w k (length (take l.count c.deref.result.now)) (vec_capacity l.jobs) l.lanes.idle l.making.berths stock l.jobs.items) (sym block)
          (subst (λ xs. MayStage shown w stock.block (length (take l.count xs)) (vec_capacity l.jobs) l.lanes.idle l.making.berths stock l.jobs.items) (sym c.deref.ensures.value)
          (turn_stage cmp b f w workers places most shown o l.inputs l.making.made l.making.berths l.lanes.idle stock l.lanes.batch.items l.count turn (vec_capacity l.jobs) (omega (arith, i.job_room, c.requires.room)) l.jobs.items i.no_job));
    }

pub take_beside-taken-requires-clause-jobs : goal.take_beside-taken-requires-clause-jobs
take_beside-taken-requires-clause-jobs g c κs within =
    let cmp = g.R.Ord.cmp in
    let b = g.R.Record.bytes_of in
    let f = g.R.Record.record_of in
    let w = g.R.Record.WIDTH in
    let shown = g.S.Slot.shown in
    let workers = c.args.bench.now.workers in
    let places = length c.args.bench.now.places in
    let most = length c.args.lanes.now.batch.items in
    let stock0 = g.P.Supply.stock c.args.supply.now in
    let o = table_of c.args.inputs.now c.args.lanes.now c.args.making.now stock0 in
    let l = c.loop-count in
    let i = l.invariant in
    let stock = g.P.Supply.stock l.supply in
    let turn = i.turn in
    let block : c.block-block.result ≡ stock.block = c.block-block.ensures ∙ first_block stock0.block c.args.lanes.now.idle c.at.result.now c.requires.may.ready.may.sources.idle c.at.ensures
    ∙ sym (turn_block cmp b f w workers places most shown o l.inputs l.making.made l.making.berths l.lanes.idle stock l.lanes.batch.items l.count turn ∙ turn.merged.merging.rest.block) in
    let new = c.stage.new in
    let stock1 = g.P.Supply.stock new.supply in
    let staged = subst (λ k. Staged w k shown (take l.count l.lanes.batch.items) l.lanes.idle new.idle l.making.berths new.making.berths stock stock1 new.jobs.items) block (rw c.deref.ensures.value at c.stage.ensures.staged) in
    rw c.deref_mut.ensures.value (turn_run cmp b f w workers places most shown o l.inputs l.making.made l.making.berths l.lanes.idle stock l.lanes.batch.items l.count turn new.idle new.making.berths stock1 new.jobs.items staged)

pub take_beside-taken-requires-clause-may : goal.take_beside-taken-requires-clause-may
take_beside-taken-requires-clause-may g c κs within =
    let cmp = g.R.Ord.cmp in
    let b = g.R.Record.bytes_of in
    let f = g.R.Record.record_of in
    let w = g.R.Record.WIDTH in
    let shown = g.S.Slot.shown in
    let workers = c.args.bench.now.workers in
    let places = length c.args.bench.now.places in
    let most = length c.args.lanes.now.batch.items in
    let stock0 = g.P.Supply.stock c.args.supply.now in
    let o = table_of c.args.inputs.now c.args.lanes.now c.args.making.now stock0 in
    let l = c.loop-count in
    let i = l.invariant in
    let stock = g.P.Supply.stock l.supply in
    let turn = i.turn in
    let block : c.block-block.result ≡ stock.block = c.block-block.ensures ∙ first_block stock0.block c.args.lanes.now.idle c.at.result.now c.requires.may.ready.may.sources.idle c.at.ensures
    ∙ sym (turn_block cmp b f w workers places most shown o l.inputs l.making.made l.making.berths l.lanes.idle stock l.lanes.batch.items l.count turn ∙ turn.merged.merging.rest.block) in
    let new = c.stage.new in
    let stock1 = g.P.Supply.stock new.supply in
    let staged = subst (λ k. Staged w k shown (take l.count l.lanes.batch.items) l.lanes.idle new.idle l.making.berths new.making.berths stock stock1 new.jobs.items) block (rw c.deref.ensures.value at c.stage.ensures.staged) in
    let may = turn_take cmp b f w workers places most shown o l.inputs l.making.made l.making.berths l.lanes.idle stock l.lanes.batch.items l.count turn new.idle new.making.berths stock1 new.jobs.items staged in
    record {
      eight = may.eight;
      may = subst (λ k. MayFetch shown w k (state [] l.inputs new.idle stock1)) (sym i.tools.workers) may.may;
      bench = omega (arith, may.bench, i.tools.same_places);
    }

pub end_group-requires : goal.end_group-requires
end_group-requires g c =
    let cmp = g.R.Ord.cmp in
    let b = g.R.Record.bytes_of in
    let f = g.R.Record.record_of in
    let w = g.R.Record.WIDTH in
    let shown = g.S.Slot.shown in
    let workers = c.args.bench.now.workers in
    let places = length c.args.bench.now.places in
    let most = length c.args.lanes.now.batch.items in
    let stock0 = g.P.Supply.stock c.args.supply.now in
    let o = table_of c.args.inputs.now c.args.lanes.now c.args.making.now stock0 in
    let l = c.loop-count in
    let i = l.invariant in
    let stock = g.P.Supply.stock l.supply in
    let turn = i.turn in
    let block : c.block-block.result ≡ stock.block = c.block-block.ensures ∙ first_block stock0.block c.args.lanes.now.idle c.at.result.now c.requires.may.ready.may.sources.idle c.at.ensures
    ∙ sym (turn_block cmp b f w workers places most shown o l.inputs l.making.made l.making.berths l.lanes.idle stock l.lanes.batch.items l.count turn ∙ turn.merged.merging.rest.block) in
    let new = c.stage.new in
    let stock1 = g.P.Supply.stock new.supply in
    let staged = subst (λ k. Staged w k shown (take l.count l.lanes.batch.items) l.lanes.idle new.idle l.making.berths new.making.berths stock stock1 new.jobs.items) block (rw c.deref.ensures.value at c.stage.ensures.staged) in
    let next = c.take_beside-taken in
    let done = next.new.jobs in
    let stock2 = g.P.Supply.stock next.new.supply in
    let zip = subst (λ js. AllZip (Ran cmp b f w stock.block shown) js done) c.deref_mut.ensures.value next.ensures.jobs in
    let whole = lent_back new.jobs.len done (drop (length done) new.jobs.items) (sym c.deref_mut.ensures.len ∙ sym next.auto.jobs) in
    let took = subst (λ k. Takes cmp f w k shown (state [] l.inputs new.idle stock1) (state [] next.new.inputs next.new.lanes.idle stock2) next.new.lanes.batch.items next.result) i.tools.workers next.ensures.took in
    let parts = takes_parts cmp b f w workers places most shown (state [] l.inputs new.idle stock1) (state [] next.new.inputs next.new.lanes.idle stock2) next.new.lanes.batch.items next.result took in
    let made = c.stage.ensures.made in
    record {
      none_lifted = ap (λ a. a.lifted) made ∙ ap (λ a. a.lifted) (turn_write cmp b f w workers places most shown o l.inputs l.making.made l.making.berths l.lanes.idle stock l.lanes.batch.items l.count turn).shape;
      can = subst (All (CanEnd f w shown)) (sym whole) (turn_can cmp b f w workers places most shown o l.inputs l.making.made l.making.berths l.lanes.idle stock l.lanes.batch.items l.count turn new.idle new.making.berths stock1 new.jobs.items staged done zip);
      few_idle = omega (arith, ap length whole, turn_few_idle cmp b f w workers places most shown o l.inputs l.making.made l.making.berths l.lanes.idle stock l.lanes.batch.items l.count turn new.idle new.making.berths stock1 new.jobs.items staged done zip next.new.inputs next.new.lanes.idle stock2 parts.0 parts.1);
      few_slots = omega (arith, ap length whole, turn_few_slots cmp b f w workers places most shown o l.inputs l.making.made l.making.berths l.lanes.idle stock l.lanes.batch.items l.count turn new.idle new.making.berths stock1 new.jobs.items staged done zip i.few);
      room = omega (arith, ap length whole, ap (λ a. length a.stored) made, turn_few_stored cmp b f w workers places most shown o l.inputs l.making.made l.making.berths l.lanes.idle stock l.lanes.batch.items l.count turn new.idle new.making.berths stock1 new.jobs.items staged done zip c.loop-count-test.true);
      few = omega (arith, ap items_in whole, ap size_of made, turn_few_records cmp b f w workers places most shown o l.inputs l.making.made l.making.berths l.lanes.idle stock l.lanes.batch.items l.count turn new.idle new.making.berths stock1 new.jobs.items staged done zip);
    }

pub free_slot-requires : goal.free_slot-requires
free_slot-requires g c =
    let cmp = g.R.Ord.cmp in
    let b = g.R.Record.bytes_of in
    let f = g.R.Record.record_of in
    let w = g.R.Record.WIDTH in
    let shown = g.S.Slot.shown in
    let workers = c.args.bench.now.workers in
    let places = length c.args.bench.now.places in
    let most = length c.args.lanes.now.batch.items in
    let stock0 = g.P.Supply.stock c.args.supply.now in
    let o = table_of c.args.inputs.now c.args.lanes.now c.args.making.now stock0 in
    let l = c.loop-count in
    let i = l.invariant in
    let stock = g.P.Supply.stock l.supply in
    let turn = i.turn in
    let block : c.block-block.result ≡ stock.block = c.block-block.ensures ∙ first_block stock0.block c.args.lanes.now.idle c.at.result.now c.requires.may.ready.may.sources.idle c.at.ensures
    ∙ sym (turn_block cmp b f w workers places most shown o l.inputs l.making.made l.making.berths l.lanes.idle stock l.lanes.batch.items l.count turn ∙ turn.merged.merging.rest.block) in
    let new = c.stage.new in
    let stock1 = g.P.Supply.stock new.supply in
    let staged = subst (λ k. Staged w k shown (take l.count l.lanes.batch.items) l.lanes.idle new.idle l.making.berths new.making.berths stock stock1 new.jobs.items) block (rw c.deref.ensures.value at c.stage.ensures.staged) in
    let next = c.take_beside-taken in
    let done = next.new.jobs in
    let stock2 = g.P.Supply.stock next.new.supply in
    let zip = subst (λ js. AllZip (Ran cmp b f w stock.block shown) js done) c.deref_mut.ensures.value next.ensures.jobs in
    let whole = lent_back new.jobs.len done (drop (length done) new.jobs.items) (sym c.deref_mut.ensures.len ∙ sym next.auto.jobs) in
    let took = subst (λ k. Takes cmp f w k shown (state [] l.inputs new.idle stock1) (state [] next.new.inputs next.new.lanes.idle stock2) next.new.lanes.batch.items next.result) i.tools.workers next.ensures.took in
    let parts = takes_parts cmp b f w workers places most shown (state [] l.inputs new.idle stock1) (state [] next.new.inputs next.new.lanes.idle stock2) next.new.lanes.batch.items next.result took in
    let made = c.stage.ensures.made in
    let ended = c.end_group.new.making in
    let stopped = subst (λ m. GroupStopped done new.making.berths ended.berths m ended.made c.in-Some.berth) made (subst (λ js. GroupStopped js new.making.berths ended.berths new.making.made ended.made c.in-Some.berth) whole c.in-Some.ensures.stopped) in
    let may = turn_free cmp b f w workers places most shown o l.inputs l.making.made l.making.berths l.lanes.idle stock l.lanes.batch.items l.count turn new.idle new.making.berths stock1 new.jobs.items staged done zip next.new.inputs next.new.lanes.idle stock2 parts.0 parts.1 ended.berths ended.made c.in-Some.berth stopped c.loop-count-test.true in
    record { room = may.0; slot = may.1 }

pub returns-in-Some-clause-outcome : goal.returns-in-Some-clause-outcome
returns-in-Some-clause-outcome g c =
    let cmp = g.R.Ord.cmp in
    let b = g.R.Record.bytes_of in
    let f = g.R.Record.record_of in
    let w = g.R.Record.WIDTH in
    let shown = g.S.Slot.shown in
    let workers = c.args.bench.now.workers in
    let places = length c.args.bench.now.places in
    let most = length c.args.lanes.now.batch.items in
    let stock0 = g.P.Supply.stock c.args.supply.now in
    let o = table_of c.args.inputs.now c.args.lanes.now c.args.making.now stock0 in
    let l = c.loop-count in
    let i = l.invariant in
    let stock = g.P.Supply.stock l.supply in
    let turn = i.turn in
    let block : c.block-block.result ≡ stock.block = c.block-block.ensures ∙ first_block stock0.block c.args.lanes.now.idle c.at.result.now c.requires.may.ready.may.sources.idle c.at.ensures
    ∙ sym (turn_block cmp b f w workers places most shown o l.inputs l.making.made l.making.berths l.lanes.idle stock l.lanes.batch.items l.count turn ∙ turn.merged.merging.rest.block) in
    let new = c.stage.new in
    let stock1 = g.P.Supply.stock new.supply in
    let staged = subst (λ k. Staged w k shown (take l.count l.lanes.batch.items) l.lanes.idle new.idle l.making.berths new.making.berths stock stock1 new.jobs.items) block (rw c.deref.ensures.value at c.stage.ensures.staged) in
    let next = c.take_beside-taken in
    let done = next.new.jobs in
    let stock2 = g.P.Supply.stock next.new.supply in
    let zip = subst (λ js. AllZip (Ran cmp b f w stock.block shown) js done) c.deref_mut.ensures.value next.ensures.jobs in
    let whole = lent_back new.jobs.len done (drop (length done) new.jobs.items) (sym c.deref_mut.ensures.len ∙ sym next.auto.jobs) in
    let took = subst (λ k. Takes cmp f w k shown (state [] l.inputs new.idle stock1) (state [] next.new.inputs next.new.lanes.idle stock2) next.new.lanes.batch.items next.result) i.tools.workers next.ensures.took in
    let parts = takes_parts cmp b f w workers places most shown (state [] l.inputs new.idle stock1) (state [] next.new.inputs next.new.lanes.idle stock2) next.new.lanes.batch.items next.result took in
    let made = c.stage.ensures.made in
    let ended = c.end_group.new.making in
    let stopped = subst (λ m. GroupStopped done new.making.berths ended.berths m ended.made c.in-Some.berth) made (subst (λ js. GroupStopped js new.making.berths ended.berths new.making.made ended.made c.in-Some.berth) whole c.in-Some.ensures.stopped) in
    turn_stopped cmp b f w workers places most shown o l.inputs l.making.made l.making.berths l.lanes.idle stock l.lanes.batch.items l.count turn new.idle new.making.berths stock1 new.jobs.items staged done zip next.new.inputs next.new.lanes.idle stock2 parts.0 parts.1 ended.berths ended.made c.in-Some.berth stopped c.loop-count-test.true
    c.end_group.new.idle (c.end_group.ensures.idle ∙ ap (λ js. next.new.lanes.idle ++ map buf_of js) whole) (g.P.Supply.stock c.free_slot.new.supply) c.number-number.result c.free_slot.ensures.back c.number-number.ensures

pub loop-count-preserved : goal.loop-count-preserved
loop-count-preserved g c =
    let cmp = g.R.Ord.cmp in
    let b = g.R.Record.bytes_of in
    let f = g.R.Record.record_of in
    let w = g.R.Record.WIDTH in
    let shown = g.S.Slot.shown in
    let workers = c.args.bench.now.workers in
    let places = length c.args.bench.now.places in
    let most = length c.args.lanes.now.batch.items in
    let stock0 = g.P.Supply.stock c.args.supply.now in
    let o = table_of c.args.inputs.now c.args.lanes.now c.args.making.now stock0 in
    let l = c.loop-count in
    let i = l.invariant in
    let stock = g.P.Supply.stock l.supply in
    let turn = i.turn in
    let block : c.block-block.result ≡ stock.block = c.block-block.ensures ∙ first_block stock0.block c.args.lanes.now.idle c.at.result.now c.requires.may.ready.may.sources.idle c.at.ensures
    ∙ sym (turn_block cmp b f w workers places most shown o l.inputs l.making.made l.making.berths l.lanes.idle stock l.lanes.batch.items l.count turn ∙ turn.merged.merging.rest.block) in
    let new = c.stage.new in
    let stock1 = g.P.Supply.stock new.supply in
    let staged = subst (λ k. Staged w k shown (take l.count l.lanes.batch.items) l.lanes.idle new.idle l.making.berths new.making.berths stock stock1 new.jobs.items) block (rw c.deref.ensures.value at c.stage.ensures.staged) in
    let next = c.take_beside-taken in
    let done = next.new.jobs in
    let stock2 = g.P.Supply.stock next.new.supply in
    let zip = subst (λ js. AllZip (Ran cmp b f w stock.block shown) js done) c.deref_mut.ensures.value next.ensures.jobs in
    let whole = lent_back new.jobs.len done (drop (length done) new.jobs.items) (sym c.deref_mut.ensures.len ∙ sym next.auto.jobs) in
    let took = subst (λ k. Takes cmp f w k shown (state [] l.inputs new.idle stock1) (state [] next.new.inputs next.new.lanes.idle stock2) next.new.lanes.batch.items next.result) i.tools.workers next.ensures.took in
    let parts = takes_parts cmp b f w workers places most shown (state [] l.inputs new.idle stock1) (state [] next.new.inputs next.new.lanes.idle stock2) next.new.lanes.batch.items next.result took in
    let made = c.stage.ensures.made in
    let ended = c.end_group.new.making in
    let good = subst (All IsGood) whole c.in-None.ensures.good in
    let answer = c.in-Ok-taken.next in
    let took_ok = subst (λ r. Takes cmp f w workers shown (state [] l.inputs new.idle stock1) (state [] next.new.inputs next.new.lanes.idle stock2) next.new.lanes.batch.items r) c.in-Ok-taken.is took in
    let on = turn_next cmp b f w workers places most shown o l.inputs l.making.made l.making.berths l.lanes.idle stock l.lanes.batch.items l.count turn new.idle new.making.berths stock1 new.jobs.items staged done zip next.new.inputs next.new.lanes.idle stock2 parts.0 parts.1 (ranks c.record_laws.ensures.order) good next.new.lanes.batch.items answer (next.ensures.tools.batch ∙ i.tools.batch) took_ok in
    let idle = c.end_group.ensures.idle ∙ ap (λ js. next.new.lanes.idle ++ map buf_of js) whole in
    let array = c.in-None.ensures.array ∙ ap (λ js. appended new.making.made js) whole ∙ ap (λ a. appended a done) made in
    let tools = SameTools-trans c.args.lanes.now l.lanes next.new.lanes workers l.bench.workers next.new.bench.workers places (length l.bench.places) (length next.new.bench.places) i.tools (record { jobs = next.ensures.tools.jobs; job_room = next.ensures.tools.job_room; batch = next.ensures.tools.batch; batch_room = next.ensures.tools.batch_room; workers = next.ensures.tools.workers; same_places = next.ensures.tools.same_places }) in
    record {
      turn = subst (λ bs. AtTurn cmp f w workers places most shown o next.new.inputs ended.made ended.berths bs stock2 next.new.lanes.batch.items answer) (sym idle)
          (subst (λ bs. AtTurn cmp f w workers places most shown o next.new.inputs ended.made bs (next.new.lanes.idle ++ map buf_of done) stock2 next.new.lanes.batch.items answer) (sym c.in-None.ensures.berths)
          (subst (λ m. AtTurn cmp f w workers places most shown o next.new.inputs m new.making.berths (next.new.lanes.idle ++ map buf_of done) stock2 next.new.lanes.batch.items answer) (sym array) on));
      few = omega (arith, i.few, staged.left, ap length c.in-None.ensures.berths);
      home = next.ensures.home ∙ c.stage.ensures.home ∙ i.home;
      tools = record { jobs = tools.jobs; job_room = tools.job_room; batch = tools.batch; batch_room = tools.batch_room; workers = tools.workers; same_places = tools.same_places };
      no_job = c.end_group.ensures.no_job;
      job_room = c.end_group.ensures.job_room ∙ c.stage.ensures.room ∙ i.job_room;
    }

pub returns-in-Err-taken-clause-outcome : goal.returns-in-Err-taken-clause-outcome
returns-in-Err-taken-clause-outcome g c =
    let cmp = g.R.Ord.cmp in
    let b = g.R.Record.bytes_of in
    let f = g.R.Record.record_of in
    let w = g.R.Record.WIDTH in
    let shown = g.S.Slot.shown in
    let workers = c.args.bench.now.workers in
    let places = length c.args.bench.now.places in
    let most = length c.args.lanes.now.batch.items in
    let stock0 = g.P.Supply.stock c.args.supply.now in
    let o = table_of c.args.inputs.now c.args.lanes.now c.args.making.now stock0 in
    let l = c.loop-count in
    let i = l.invariant in
    let stock = g.P.Supply.stock l.supply in
    let turn = i.turn in
    let block : c.block-block.result ≡ stock.block = c.block-block.ensures ∙ first_block stock0.block c.args.lanes.now.idle c.at.result.now c.requires.may.ready.may.sources.idle c.at.ensures
    ∙ sym (turn_block cmp b f w workers places most shown o l.inputs l.making.made l.making.berths l.lanes.idle stock l.lanes.batch.items l.count turn ∙ turn.merged.merging.rest.block) in
    let new = c.stage.new in
    let stock1 = g.P.Supply.stock new.supply in
    let staged = subst (λ k. Staged w k shown (take l.count l.lanes.batch.items) l.lanes.idle new.idle l.making.berths new.making.berths stock stock1 new.jobs.items) block (rw c.deref.ensures.value at c.stage.ensures.staged) in
    let next = c.take_beside-taken in
    let done = next.new.jobs in
    let stock2 = g.P.Supply.stock next.new.supply in
    let zip = subst (λ js. AllZip (Ran cmp b f w stock.block shown) js done) c.deref_mut.ensures.value next.ensures.jobs in
    let whole = lent_back new.jobs.len done (drop (length done) new.jobs.items) (sym c.deref_mut.ensures.len ∙ sym next.auto.jobs) in
    let took = subst (λ k. Takes cmp f w k shown (state [] l.inputs new.idle stock1) (state [] next.new.inputs next.new.lanes.idle stock2) next.new.lanes.batch.items next.result) i.tools.workers next.ensures.took in
    let parts = takes_parts cmp b f w workers places most shown (state [] l.inputs new.idle stock1) (state [] next.new.inputs next.new.lanes.idle stock2) next.new.lanes.batch.items next.result took in
    let made = c.stage.ensures.made in
    let ended = c.end_group.new.making in
    let good = subst (All IsGood) whole c.in-None.ensures.good in
    let fault = c.in-Err-taken.fault in
    let took_err = subst (λ r. Takes cmp f w workers shown (state [] l.inputs new.idle stock1) (state [] next.new.inputs next.new.lanes.idle stock2) next.new.lanes.batch.items r) c.in-Err-taken.is took in
    let on = turn_not_read cmp b f w workers places most shown o l.inputs l.making.made l.making.berths l.lanes.idle stock l.lanes.batch.items l.count turn new.idle new.making.berths stock1 new.jobs.items staged done zip next.new.inputs next.new.lanes.idle stock2 parts.0 parts.1 (ranks c.record_laws.ensures.order) good fault took_err in
    let idle = c.end_group.ensures.idle ∙ ap (λ js. next.new.lanes.idle ++ map buf_of js) whole in
    let array = c.in-None.ensures.array ∙ ap (λ js. appended new.making.made js) whole ∙ ap (λ a. appended a done) made in
    subst (λ bs. MergeFailed shown w o (table next.new.inputs bs ended.made ended.berths stock2) fault) (sym idle)
    (subst (λ bs. MergeFailed shown w o (table next.new.inputs (next.new.lanes.idle ++ map buf_of done) ended.made bs stock2) fault) (sym c.in-None.ensures.berths)
    (subst (λ m. MergeFailed shown w o (table next.new.inputs (next.new.lanes.idle ++ map buf_of done) m new.making.berths stock2) fault) (sym array) on))

pub see_emptied-requires : goal.see_emptied-requires
see_emptied-requires g c =
    let cmp = g.R.Ord.cmp in
    let b = g.R.Record.bytes_of in
    let f = g.R.Record.record_of in
    let w = g.R.Record.WIDTH in
    let shown = g.S.Slot.shown in
    let workers = c.args.bench.now.workers in
    let places = length c.args.bench.now.places in
    let most = length c.args.lanes.now.batch.items in
    let stock0 = g.P.Supply.stock c.args.supply.now in
    let o = table_of c.args.inputs.now c.args.lanes.now c.args.making.now stock0 in
    let l = c.loop-count in
    let i = l.invariant in
    let stock = g.P.Supply.stock l.supply in
    let turn = i.turn in
    let end = turn_end cmp b f w workers places most shown o l.inputs l.making.made l.making.berths l.lanes.idle stock l.lanes.batch.items l.count turn (omega (arith, c.loop-count-test.false)) (ranks c.record_laws.ensures.order) in
    record {
      none = end.1;
      lifted = All-from_recursion (λ (a : External g.row.S.Denot g.row.R.Denot). a.lifted ≡ []) l.inputs end.0.ready.may.none_lifted;
      spent = All-from_recursion (λ (a : External g.row.S.Denot g.row.R.Denot). a.loaded.spent ≡ []) l.inputs end.0.ready.may.sources.external_spent;
    }

pub returns-clause-outcome : goal.returns-clause-outcome
returns-clause-outcome g c =
    let cmp = g.R.Ord.cmp in
    let b = g.R.Record.bytes_of in
    let f = g.R.Record.record_of in
    let w = g.R.Record.WIDTH in
    let shown = g.S.Slot.shown in
    let workers = c.args.bench.now.workers in
    let places = length c.args.bench.now.places in
    let most = length c.args.lanes.now.batch.items in
    let stock0 = g.P.Supply.stock c.args.supply.now in
    let o = table_of c.args.inputs.now c.args.lanes.now c.args.making.now stock0 in
    let l = c.loop-count in
    let i = l.invariant in
    let stock = g.P.Supply.stock l.supply in
    let turn = i.turn in
    ((turn_end cmp b f w workers places most shown o l.inputs l.making.made l.making.berths l.lanes.idle stock l.lanes.batch.items l.count turn (omega (arith, c.loop-count-test.false)) (ranks c.record_laws.ensures.order)).0, c.see_emptied.ensures)
