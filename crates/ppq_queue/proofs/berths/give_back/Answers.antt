use Rattle.std.proofs.Common.{◌++◌, length, sum_by, ap, arith, map, length-append}
use Rattle.std.proofs.lemmas.List.{length-map}
use Rattle.std.proofs.lemmas.List.Sums.{sum_by-append}
use Rattle.ppq_extract.specs.ppq_array.Holdings.{external_slots}
use Rattle.ppq_spill.specs.Body.{job_slots}
use Rattle.ppq_extract.specs.ppq_lane.declared.job.Job.{Job}
use Rattle.ppq_extract.specs.ppq_array.declared.berth.DeviceBlock.{DeviceBlock}
use Rattle.ppq_queue.proofs.berths.give_back.Goals as goal

pub take_jobs-requires : goal.take_jobs-requires
take_jobs-requires g c =
    let shown = g.S.Slot.shown in
    let e = external_slots shown c.args.body.runs.external.items in
    let j = job_slots shown c.args.body.lanes.jobs.items in
    let long = length-map c.args.body.lanes.jobs.items (λ (job : Job (DeviceBlock g.row.S.Denot g.row.R.Denot) g.row.R.Denot). shown job.slot.slot) in
    omega (arith, c.requires.room, length-append (e ++ j) c.args.supply.kept, length-append e j, long, c.take_stored.ensures.count, c.take_stored.ensures.capacity, ap length c.requires.empty)

pub take_kept-requires : goal.take_kept-requires
take_kept-requires g c =
    let shown = g.S.Slot.shown in
    let e = external_slots shown c.args.body.runs.external.items in
    let j = job_slots shown c.args.body.lanes.jobs.items in
    let long = length-map c.args.body.lanes.jobs.items (λ (job : Job (DeviceBlock g.row.S.Denot g.row.R.Denot) g.row.R.Denot). shown job.slot.slot) in
    omega (arith, c.requires.room, length-append (e ++ j) c.args.supply.kept, length-append e j, long, c.take_stored.ensures.count, c.take_stored.ensures.capacity, c.take_jobs.ensures.count, c.take_jobs.ensures.capacity, ap length c.requires.empty)

pub returns : goal.returns
returns g c f =
    let shown = g.S.Slot.shown in
    let e = external_slots shown c.args.body.runs.external.items in
    let j = job_slots shown c.args.body.lanes.jobs.items in
    let first = c.take_stored.ensures.slots f in
    let second = c.take_jobs.ensures.slots f in
    omega (
      arith,
      sum_by-append f (e ++ j) c.args.supply.kept,
      sum_by-append f e j,
      first,
      sum_by-append f (map shown c.args.slots.items) e,
      ap (λ l. sum_by f (map shown l)) c.requires.empty,
      second,
      sum_by-append f (map shown c.take_stored.new.slots.items) j,
      ap (sum_by f) c.take_kept.ensures.slots,
      sum_by-append f (map shown c.take_jobs.new.slots.items) c.args.supply.kept,
    )
