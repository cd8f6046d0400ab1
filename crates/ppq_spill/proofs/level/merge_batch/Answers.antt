use Rattle.std.proofs.Common.{[], length, min, take, sym, ap, ◌∙◌, subst}
use Rattle.ppq_fetch.proofs.ppq_record.Fronts.{ranks}
use Rattle.ppq_fetch.specs.Fetching.{count_in}
use Rattle.ppq_spill.specs.Making.{table_of, hand_of, MayWrite}
use Rattle.ppq_spill.proofs.Rounds.{may_write, batch_merged, batch_not_read, batch_not_written}
use Rattle.ppq_spill.proofs.level.merge_batch.Goals as goal

pub write_batch-requires-clause-may : goal.write_batch-requires-clause-may
write_batch-requires-clause-may g c κs within =
    let stock = g.P.Supply.stock c.args.supply.now in
    let stock1 = g.P.Supply.stock c.take_batch.new.supply in
    let w = g.R.Record.WIDTH in
    let lanes1 = c.take_batch.new.lanes in
    subst (λ xs. MayWrite g.S.Slot.shown w (length (take c.in-Ok.count xs)) lanes1.idle (hand_of c.args.making.now stock1)) (sym c.deref.ensures.value)
    (may_write g.R.Ord.cmp g.R.Record.record_of w c.args.bench.now.workers g.S.Slot.shown (length c.args.bench.now.places) (length c.args.lanes.now.batch.items) (table_of c.args.inputs.now c.args.lanes.now c.args.making.now stock) c.take_batch.new.inputs lanes1.idle stock1 lanes1.batch.items c.in-Ok.count c.requires.may (record { within = c.in-Ok.ensures.within; taken = c.in-Ok.ensures.taken; all = c.in-Ok.ensures.all ∙ ap (λ k. min k (count_in [] c.args.inputs.now)) (sym c.take_batch.ensures.tools.batch); may = c.in-Ok.ensures.may }))

pub returns-in-Err-clause-outcome : goal.returns-in-Err-clause-outcome
returns-in-Err-clause-outcome g c =
    batch_not_read g.R.Ord.cmp g.R.Record.record_of g.R.Record.WIDTH c.args.bench.now.workers g.S.Slot.shown (table_of c.args.inputs.now c.args.lanes.now c.args.making.now (g.P.Supply.stock c.args.supply.now)) c.take_batch.new.inputs c.take_batch.new.lanes.idle (g.P.Supply.stock c.take_batch.new.supply) c.in-Err.fault c.requires.may.ready (record { sources = c.take_batch.ensures.sources; failed = c.in-Err.ensures.failed; parts = c.in-Err.ensures.parts })

pub returns-in-Ok-write_batch-clause-outcome : goal.returns-in-Ok-write_batch-clause-outcome
returns-in-Ok-write_batch-clause-outcome g c =
    let stock = g.P.Supply.stock c.args.supply.now in
    let lanes1 = c.take_batch.new.lanes in
    let making2 = c.write_batch.new.making in
    batch_merged g.R.Ord.cmp g.R.Record.record_of g.R.Record.WIDTH c.args.bench.now.workers g.S.Slot.shown (length c.args.bench.now.places) (length c.args.lanes.now.batch.items) (table_of c.args.inputs.now c.args.lanes.now c.args.making.now stock) c.take_batch.new.inputs lanes1.idle c.write_batch.new.idle
    (g.P.Supply.stock c.take_batch.new.supply) (g.P.Supply.stock c.write_batch.new.supply) making2.made making2.berths lanes1.batch.items c.in-Ok.count (ranks c.record_laws.ensures.order) c.requires.may c.take_batch.ensures.tools.batch (record { within = c.in-Ok.ensures.within; taken = c.in-Ok.ensures.taken; all = c.in-Ok.ensures.all ∙ ap (λ k. min k (count_in [] c.args.inputs.now)) (sym c.take_batch.ensures.tools.batch); may = c.in-Ok.ensures.may })
    (rw c.deref.ensures.value at c.in-Ok-write_batch.ensures.outcome) c.write_batch.ensures.idle

pub returns-in-Err-write_batch-clause-outcome : goal.returns-in-Err-write_batch-clause-outcome
returns-in-Err-write_batch-clause-outcome g c =
    let stock = g.P.Supply.stock c.args.supply.now in
    let lanes1 = c.take_batch.new.lanes in
    let making2 = c.write_batch.new.making in
    batch_not_written g.R.Ord.cmp g.R.Record.record_of g.R.Record.WIDTH c.args.bench.now.workers g.S.Slot.shown (table_of c.args.inputs.now c.args.lanes.now c.args.making.now stock) c.take_batch.new.inputs lanes1.idle c.write_batch.new.idle
    (g.P.Supply.stock c.take_batch.new.supply) (g.P.Supply.stock c.write_batch.new.supply) making2.made making2.berths lanes1.batch.items c.in-Ok.count c.in-Err-write_batch.fault c.requires.may.ready (record { within = c.in-Ok.ensures.within; taken = c.in-Ok.ensures.taken; all = c.in-Ok.ensures.all ∙ ap (λ k. min k (count_in [] c.args.inputs.now)) (sym c.take_batch.ensures.tools.batch); may = c.in-Ok.ensures.may })
    (rw c.deref.ensures.value at c.in-Err-write_batch.ensures.outcome) c.write_batch.ensures.idle

pub returns-in-Ok-write_batch-clause-tools : goal.returns-in-Ok-write_batch-clause-tools
returns-in-Ok-write_batch-clause-tools g c = let t = c.take_batch.ensures.tools in record { jobs = t.jobs; job_room = t.job_room; batch = t.batch; batch_room = t.batch_room; workers = t.workers; same_places = t.same_places }

pub returns-in-Err-write_batch-clause-tools : goal.returns-in-Err-write_batch-clause-tools
returns-in-Err-write_batch-clause-tools g c = let t = c.take_batch.ensures.tools in record { jobs = t.jobs; job_room = t.job_room; batch = t.batch; batch_room = t.batch_room; workers = t.workers; same_places = t.same_places }
