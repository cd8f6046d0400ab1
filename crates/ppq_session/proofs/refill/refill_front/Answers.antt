use Rattle.std.proofs.Common.{◌∙◌, ap, arith, refl, subst, sym}
use Rattle.ppq_pass.specs.ppq_fetch.Fetching.{MayFetch}
use Rattle.ppq_pass.specs.ppq_extract.Extracted.{sources_of}
use Rattle.ppq_queue.specs.Resting.{BodyKept}
use Rattle.ppq_session.specs.Apart.{apart_slots}
use Rattle.ppq_queue.proofs.Moves.{ok-map, ok-map3, any_answer}
use Rattle.ppq_queue.proofs.Refilled.{kept-refilled}
use Rattle.ppq_session.proofs.Moved.{front-refilled, failed-kept, refused-refilled}
use Rattle.ppq_session.proofs.Refilling.{may_fetch, runs_served, quiet-refilled, sound-refilled, bag-refilled, ready-refilled, room_some}
use Rattle.ppq_queue.proofs.Paying.{costs-refilled, stops-refilled, pays-by}
use Rattle.ppq_session.proofs.Paying.{pays-refilled}
use Rattle.ppq_session.proofs.refill.refill_front.Goals as goal

pub refill-answer-requires-clause-may : goal.refill-answer-requires-clause-may
refill-answer-requires-clause-may g c lives within =
    let q = c.args.q.now in
    let may = may_fetch g.S.Slot.shown g.R.Ord.cmp g.R.Record.record_of g.R.Record.WIDTH q c.args.limit c.requires.out c.requires.sound in
    subst (λ w. MayFetch g.S.Slot.shown g.R.Record.WIDTH w (sources_of q.body.runs q.body.lanes.idle q.supply)) (sym c.requires.out.workers) may

pub refill-answer-requires-clause-serves : goal.refill-answer-requires-clause-serves
refill-answer-requires-clause-serves g c lives within =
    let few = runs_served g.S.Slot.shown g.R.Ord.cmp g.R.Record.record_of g.R.Record.WIDTH c.args.q.now c.args.limit c.requires.out c.requires.sound in
    record { bench = omega (arith, few, c.requires.out.serves.bench); places = omega (arith, few, c.requires.out.serves.places) }

pub returns-clause-stays : goal.returns-clause-stays
returns-clause-stays g c =
    let m = c.refill-answer in
    let e = m.ensures in
    let home = e.home in
    let shown = g.S.Slot.shown in
    let q = c.args.q.now in
    let a = q.body in
    let b = record a { runs = m.new.runs; lanes = m.new.lanes } in
    let s = q.supply in
    let t = m.new.supply in
    let out = c.requires.out in
    let none' = ap (λ v. v.items) e.jobs ∙ out.no_job in
    let no_row = c.free_slots-free.ensures.no_row in
    let kept =
    any_answer
    (BodyKept shown a b s t)
    m.result
    (ok-map m.result (λ r. kept-refilled shown a b s t r.kept r.all_tell _ r.transfers out.no_job none' refl e.internal_room e.external_room (ap (λ h. h.0) home) (ap (λ h. h.1) home) out.no_row no_row) e.refilled)
    (λ err. absurd (e.device_alone err))
    (λ number err. (let p = (e.device number err).parts in kept-refilled shown a b s t p.kept p.all_tell _ p.transfers out.no_job none' refl e.internal_room e.external_room (ap (λ h. h.0) home) (ap (λ h. h.1) home) out.no_row no_row))
    in
    record { out = front-refilled shown g.R.Record.WIDTH q m.new.self b t m.new.sources out kept no_row none' e.room e.within e.rest; kept = kept; rest = refl }

pub returns-clause-refilled : goal.returns-clause-refilled
returns-clause-refilled g c =
    let m = c.refill-answer in
    let e = m.ensures in
    let shown = g.S.Slot.shown in
    let cmp = g.R.Ord.cmp in
    let record_of = g.R.Record.record_of in
    let width = g.R.Record.WIDTH in
    let q = c.args.q.now in
    let limit = c.args.limit in
    let b = record q.body { runs = m.new.runs; lanes = m.new.lanes } in
    let t = m.new.supply in
    let can = c.requires in
    let kept = (returns-clause-stays g c).kept in
    let none' = ap (λ v. v.items) e.jobs ∙ can.out.no_job in
    let workers = e.rest.workers ∙ can.out.workers in
    ok-map3
    m.result
    (λ r rm first. (
    let may = subst (λ w. MayFetch shown width w (sources_of b.runs b.lanes.idle t)) workers rm in
    record {
      sound = sound-refilled shown cmp record_of width q limit can.out can.sound m.new.self b t m.new.sources kept r may none' e.batch can.empty;
      bag = bag-refilled shown cmp record_of width q limit can.out can.sound m.new.self b t m.new.sources kept r may none' e.batch can.empty;
      quiet = quiet-refilled shown cmp record_of width q limit can.out can.sound m.new.self b t m.new.sources kept r may none' e.batch;
      ready = ready-refilled shown cmp record_of width q limit can.out can.sound m.new.self b t m.new.sources kept r may none' e.batch can.empty c.record_laws.ensures.order q.extract.room (room_some shown cmp record_of width q limit can.out can.sound) first;
    }))
    e.refilled
    e.may
    e.front

pub returns-clause-failed : goal.returns-clause-failed
returns-clause-failed g c =
    let m = c.refill-answer in
    let q = c.args.q.now in
    let b = record q.body { runs = m.new.runs; lanes = m.new.lanes } in
    refused-refilled (apart_slots g.S.Slot.shown (record q { body = b; supply = m.new.supply })) m.result m.ensures.device_alone (λ number err. failed-kept g.S.Slot.shown q b m.new.supply number (m.ensures.device number err).failed)

pub returns-clause-counted : goal.returns-clause-counted
returns-clause-counted g c =
    let m = c.refill-answer in
    let e = m.ensures in
    let shown = g.S.Slot.shown in
    let q = c.args.q.now in
    let a = q.body in
    let b = record a { runs = m.new.runs; lanes = m.new.lanes } in
    let s = q.supply in
    let t = m.new.supply in
    let out = c.requires.out in
    let none' = ap (λ v. v.items) e.jobs ∙ out.no_job in
    let no_row = c.free_slots-free.ensures.no_row in
    pays-refilled shown g.R.Record.WIDTH q m.new.self b t m.new.sources m.result
    (pays-by m.result
    (ok-map m.result (λ r. costs-refilled shown q.sizes a b s t out.block out.no_row no_row out.no_job none' r.transfers refl r.in_memory r.weights) e.refilled)
    (λ err. absurd (e.device_alone err))
    (λ number err. stops-refilled shown q.sizes a b s t out.block out.no_row no_row out.no_job none' (e.device number err).parts.transfers (omega arith)))
