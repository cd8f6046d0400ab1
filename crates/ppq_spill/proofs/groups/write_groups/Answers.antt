use Rattle.std.proofs.Common.{◌++◌, All, length, drop, map, min, refl, sym, ap, ◌∙◌, subst, arith, length-append}
use Rattle.std.specs.Prelude.{vec_capacity}
use Rattle.std.specs.List.{AllZip}
use Rattle.ppq_fetch.proofs.ppq_record.Fronts.{ranks}
use Rattle.ppq_fetch.specs.ppq_array.Holdings.{internal_items}
use Rattle.ppq_spill.specs.Writing.{block_in}
use Rattle.ppq_spill.specs.Grouping.{IsGood, CanEnd, GroupStopped, appended, buf_of, items_in}
use Rattle.ppq_spill.proofs.Writings.{Writing-none}
use Rattle.ppq_spill.proofs.Grouped.{Ran}
use Rattle.ppq_spill.proofs.Groupwise.{lent_back, group_may_run, group_can_end, group_few, group_slots, group_long, underway_begin, underway_next, underway_back, underway_failed}
use Rattle.ppq_spill.proofs.groups.write_groups.Goals as goal

pub fill_group-filled-requires : goal.fill_group-filled-requires
fill_group-filled-requires g c =
    let may = c.requires.may in
    record {
      may = record {
        idle = omega (arith, c.requires.two, c.min-first.ensures);
        few = may.few_idle;
        ready = record { within = omega arith; leaves = omega (arith, may.leaves, c.write_heads.ensures.leaves); heads = rw c.deref.ensures.value at c.write_heads.ensures.heads };
      };
    }

pub groups-init : goal.groups-init
groups-init g c =
    let cmp = g.R.Ord.cmp in
    let f = g.R.Record.record_of in
    let w = g.R.Record.WIDTH in
    let shown = g.S.Slot.shown in
    let body = c.args.body.now in
    let making = c.args.making.now in
    let sorted = c.args.sorted.now in
    let block = block_in body.lanes.idle in
    let group = c.args.group in
    let may = c.requires.may in
    let fill = c.fill_group-filled in
    let is = fill.ensures in
    let writing = Writing-none cmp f w block shown making.berths body.runs.internal.items sorted making.made may.empty may.sizes may.room may.least in
    record {
      under = underway_begin cmp g.R.Record.bytes_of f w block shown group sorted body.runs.internal.items body.lanes.idle making.berths _ fill.new.body making fill.new.at c.min-first.result fill.result refl refl refl (c.min-first.ensures ∙ ap (λ n. min group n) c.len.ensures) may.blocks writing is;
      ready = is.ready;
      leaves = is.leaves ∙ c.write_heads.ensures.leaves;
      capacity = is.room;
      beside = record { external = is.beside.external; jobs = is.beside.jobs; batch = is.beside.batch };
      no_job = c.requires.no_job;
      job_room = refl;
    }

pub begin_group-requires-clause-slots : goal.begin_group-requires-clause-slots
begin_group-requires-clause-slots g c = omega (arith, c.groups.invariant.under.count)

pub begin_group-requires-clause-room : goal.begin_group-requires-clause-room
begin_group-requires-clause-room g c = omega (arith, c.groups.invariant.under.count, c.groups.invariant.job_room, c.requires.room)

pub write_beside-filled-requires-clause-jobs : goal.write_beside-filled-requires-clause-jobs
write_beside-filled-requires-clause-jobs g c κs within =
    let l = c.groups in
    let goes = l.invariant.under in
    let cmp = g.R.Ord.cmp in
    let b = g.R.Record.bytes_of in
    let f = g.R.Record.record_of in
    let w = g.R.Record.WIDTH in
    let shown = g.S.Slot.shown in
    let body = c.args.body.now in
    let sorted = c.args.sorted.now in
    let slots = c.args.making.now.berths in
    let block = block_in body.lanes.idle in
    let group = c.args.group in
    let begin = c.begin_group in
    let begun = begin.new.jobs.items in
    rw c.deref_mut.ensures.value (group_may_run cmp b f w block shown group sorted body.runs.internal.items body.lanes.idle slots l.body l.making l.at l.filled goes begin.new.berths begun begin.ensures.slots begin.ensures.bufs begin.ensures.write)

pub write_beside-filled-requires-clause-may : goal.write_beside-filled-requires-clause-may
write_beside-filled-requires-clause-may g c κs within =
    let i = c.groups.invariant in
    record {
      idle = omega (arith, c.requires.two, i.under.idle_left, i.under.count, c.min-next.ensures);
      few = omega (arith, i.under.idle_left, c.requires.may.few_idle);
      ready = i.ready;
    }

pub end_group-requires : goal.end_group-requires
end_group-requires g c =
    let l = c.groups in
    let goes = l.invariant.under in
    let cmp = g.R.Ord.cmp in
    let b = g.R.Record.bytes_of in
    let f = g.R.Record.record_of in
    let w = g.R.Record.WIDTH in
    let shown = g.S.Slot.shown in
    let body = c.args.body.now in
    let sorted = c.args.sorted.now in
    let slots = c.args.making.now.berths in
    let block = block_in body.lanes.idle in
    let group = c.args.group in
    let may = c.requires.may in
    let begin = c.begin_group in
    let begun = begin.new.jobs.items in
    let next = c.write_beside-filled in
    let done = next.new.jobs in
    let zip = subst (λ js. AllZip (Ran cmp b f w block shown) js done) c.deref_mut.ensures.value next.ensures.jobs in
    let whole = lent_back begin.new.jobs.len done (drop (length done) begun) (sym c.deref_mut.ensures.len ∙ sym next.auto.jobs) in
    let runs = body.runs.internal.items in
    let idle = body.lanes.idle in
    let taken = group_slots cmp b f w block shown group sorted runs idle slots l.body l.making l.at l.filled goes begin.new.berths begun begin.ensures.slots begin.ensures.bufs begin.ensures.write done zip in
    let long = group_long cmp b f w block shown group sorted runs idle slots l.body l.making l.at l.filled goes begin.new.berths begun begin.ensures.slots begin.ensures.bufs begin.ensures.write done zip in
    let few = group_few cmp b f w block shown group sorted runs idle slots l.body l.making l.at l.filled goes begin.new.berths begun begin.ensures.slots begin.ensures.bufs begin.ensures.write done zip in
    record {
      none_lifted = ap (λ a. a.lifted) goes.writing.shape;
      can = subst (All (CanEnd f w shown)) (sym whole) (group_can_end cmp b f w block shown group sorted runs idle slots l.body l.making l.at l.filled goes begin.new.berths begun begin.ensures.slots begin.ensures.bufs begin.ensures.write done zip may.some);
      few_idle = omega (arith, ap length whole, long, next.ensures.filled.left, goes.idle_left, may.few_idle);
      few_slots = omega (arith, ap length whole, taken, may.few_slots);
      room = omega (arith, ap length whole, taken, may.few_slots);
      few = omega (arith, ap items_in whole, few, may.few, length-append (internal_items runs) sorted);
    }

pub put_back-requires : goal.put_back-requires
put_back-requires g c =
    let l = c.groups in
    let goes = l.invariant.under in
    let cmp = g.R.Ord.cmp in
    let b = g.R.Record.bytes_of in
    let f = g.R.Record.record_of in
    let w = g.R.Record.WIDTH in
    let shown = g.S.Slot.shown in
    let body = c.args.body.now in
    let sorted = c.args.sorted.now in
    let slots = c.args.making.now.berths in
    let block = block_in body.lanes.idle in
    let group = c.args.group in
    let begin = c.begin_group in
    let begun = begin.new.jobs.items in
    let next = c.write_beside-filled in
    let done = next.new.jobs in
    let zip = subst (λ js. AllZip (Ran cmp b f w block shown) js done) c.deref_mut.ensures.value next.ensures.jobs in
    let whole = lent_back begin.new.jobs.len done (drop (length done) begun) (sym c.deref_mut.ensures.len ∙ sym next.auto.jobs) in
    let idle = c.end_group.ensures.idle ∙ ap (λ js. next.new.body.lanes.idle ++ map buf_of js) whole in
    let back = underway_back cmp b f w block shown group sorted body.runs.internal.items body.lanes.idle slots l.body l.making l.at l.filled goes begin.new.berths begun begin.ensures.slots begin.ensures.bufs begin.ensures.write done zip next.new.body next.new.at c.min-next.result next.result next.ensures.filled _ refl in
    omega (arith, ap length idle, back.long, length-append (next.new.body.lanes.idle ++ map buf_of done) next.result, c.requires.may.few_idle)

pub returns-in-Some-clause-rests : goal.returns-in-Some-clause-rests
returns-in-Some-clause-rests g c =
    let l = c.groups in
    let goes = l.invariant.under in
    let cmp = g.R.Ord.cmp in
    let b = g.R.Record.bytes_of in
    let f = g.R.Record.record_of in
    let w = g.R.Record.WIDTH in
    let shown = g.S.Slot.shown in
    let body = c.args.body.now in
    let sorted = c.args.sorted.now in
    let slots = c.args.making.now.berths in
    let block = block_in body.lanes.idle in
    let group = c.args.group in
    let begin = c.begin_group in
    let begun = begin.new.jobs.items in
    let next = c.write_beside-filled in
    let done = next.new.jobs in
    let zip = subst (λ js. AllZip (Ran cmp b f w block shown) js done) c.deref_mut.ensures.value next.ensures.jobs in
    let whole = lent_back begin.new.jobs.len done (drop (length done) begun) (sym c.deref_mut.ensures.len ∙ sym next.auto.jobs) in
    let i = l.invariant in
    let is = next.ensures.filled in
    let jobs = is.beside.jobs ∙ i.beside.jobs in
    let idle = c.put_back.ensures ∙ ap (λ bs. bs ++ next.result) (c.end_group.ensures.idle ∙ ap (λ js. next.new.body.lanes.idle ++ map buf_of js) whole) in
    record {
      leaves = is.leaves ∙ i.leaves;
      idle = underway_back cmp b f w block shown group sorted body.runs.internal.items body.lanes.idle slots l.body l.making l.at l.filled goes begin.new.berths begun begin.ensures.slots begin.ensures.bufs begin.ensures.write done zip next.new.body next.new.at c.min-next.result next.result next.ensures.filled c.put_back.new.idle idle;
      no_job = ap (λ v. v.items) jobs ∙ c.requires.may.no_job;
      job_room = ap vec_capacity jobs;
      batch = is.beside.batch ∙ i.beside.batch;
      internal_room = is.room ∙ i.capacity;
      external = is.beside.external ∙ i.beside.external;
    }

pub returns-in-Some-clause-outcome : goal.returns-in-Some-clause-outcome
returns-in-Some-clause-outcome g c =
    let l = c.groups in
    let goes = l.invariant.under in
    let cmp = g.R.Ord.cmp in
    let b = g.R.Record.bytes_of in
    let f = g.R.Record.record_of in
    let w = g.R.Record.WIDTH in
    let shown = g.S.Slot.shown in
    let body = c.args.body.now in
    let sorted = c.args.sorted.now in
    let slots = c.args.making.now.berths in
    let block = block_in body.lanes.idle in
    let group = c.args.group in
    let begin = c.begin_group in
    let begun = begin.new.jobs.items in
    let next = c.write_beside-filled in
    let done = next.new.jobs in
    let zip = subst (λ js. AllZip (Ran cmp b f w block shown) js done) c.deref_mut.ensures.value next.ensures.jobs in
    let whole = lent_back begin.new.jobs.len done (drop (length done) begun) (sym c.deref_mut.ensures.len ∙ sym next.auto.jobs) in
    let stopped = subst (λ js. GroupStopped js begin.new.berths c.end_group.new.making.berths l.making.made c.end_group.new.making.made c.in-Some.failed) whole c.in-Some.ensures.stopped in
    underway_failed cmp b f w block shown group sorted body.runs.internal.items body.lanes.idle slots l.body l.making l.at l.filled goes begin.new.berths begun begin.ensures.slots begin.ensures.bufs begin.ensures.write done zip next.new.body next.new.at c.min-next.result next.result next.ensures.filled
    (ranks c.record_laws.ensures.order) c.requires.may.some c.end_group.new.making.berths c.end_group.new.making.made c.in-Some.failed stopped

pub groups-preserved : goal.groups-preserved
groups-preserved g c =
    let l = c.groups in
    let goes = l.invariant.under in
    let cmp = g.R.Ord.cmp in
    let b = g.R.Record.bytes_of in
    let f = g.R.Record.record_of in
    let w = g.R.Record.WIDTH in
    let shown = g.S.Slot.shown in
    let body = c.args.body.now in
    let sorted = c.args.sorted.now in
    let slots = c.args.making.now.berths in
    let block = block_in body.lanes.idle in
    let group = c.args.group in
    let begin = c.begin_group in
    let begun = begin.new.jobs.items in
    let next = c.write_beside-filled in
    let done = next.new.jobs in
    let zip = subst (λ js. AllZip (Ran cmp b f w block shown) js done) c.deref_mut.ensures.value next.ensures.jobs in
    let whole = lent_back begin.new.jobs.len done (drop (length done) begun) (sym c.deref_mut.ensures.len ∙ sym next.auto.jobs) in
    let i = l.invariant in
    let is = next.ensures.filled in
    let making = c.end_group.new.making in
    let good = subst (All IsGood) whole c.in-None.ensures.good in
    let few = c.min-next.ensures ∙ ap (λ n. min group n) c.len-in-groups.ensures in
    let idle = c.end_group.ensures.idle ∙ ap (λ js. next.new.body.lanes.idle ++ map buf_of js) whole in
    let array = c.in-None.ensures.array ∙ ap (λ js. appended l.making.made js) whole in
    record {
      under = underway_next cmp b f w block shown group sorted body.runs.internal.items body.lanes.idle slots l.body l.making l.at l.filled goes begin.new.berths begun begin.ensures.slots begin.ensures.bufs begin.ensures.write done zip next.new.body next.new.at c.min-next.result next.result next.ensures.filled
          (ranks c.record_laws.ensures.order) c.requires.may.some good few _ making idle refl c.in-None.ensures.berths array;
      ready = is.ready;
      leaves = is.leaves ∙ i.leaves;
      capacity = is.room ∙ i.capacity;
      beside = record { external = is.beside.external ∙ i.beside.external; jobs = is.beside.jobs ∙ i.beside.jobs; batch = is.beside.batch ∙ i.beside.batch };
      no_job = c.end_group.ensures.no_job;
      job_room = c.end_group.ensures.job_room ∙ begin.ensures.room ∙ i.job_room;
    }
