use Rattle.std.proofs.Common.{ap, ◌∙◌, subst, sym, arith, refl}
use Rattle.ppq_extract.specs.ppq_fetch.Fetching.{MayFetch}
use Rattle.ppq_extract.specs.Extracted.{sources_of}
use Rattle.ppq_queue.specs.Resting.{BodyKept, Readied}
use Rattle.ppq_queue.specs.Stores.{FailsAlone}
use Rattle.ppq_spill.specs.Body.{body_slots}
use Rattle.ppq_queue.proofs.Bounds.{runs_few, batch_some}
use Rattle.ppq_queue.proofs.Moves.{ok-map, ok-map3, any_answer}
use Rattle.ppq_queue.proofs.Refilled.{kept-refilled, may_fetch, readied-refilled}
use Rattle.ppq_queue.proofs.Paying.{pays-by, costs-refilled, stops-refilled}
use Rattle.ppq_queue.proofs.Stores.{by_fault, failed-right, kept-step, readies-step}
use Rattle.ppq_queue.proofs.store.Store.refill.Goals as goal

pub refill-answer-requires-clause-may : goal.refill-answer-requires-clause-may
refill-answer-requires-clause-may g c lives within =
    let x = c.args.self.now in
    let works = c.requires.may.works in
    let may = may_fetch g.S.Slot.shown g.R.Ord.cmp g.R.Record.record_of g.R.Record.WIDTH x.sizes x.body x.supply works.runs.rest works.runs.range works.runs.budget c.requires.may.few in
    subst (λ w. MayFetch g.S.Slot.shown g.R.Record.WIDTH w (sources_of x.body.runs x.body.lanes.idle x.supply)) (sym works.workers) may

pub refill-answer-requires-clause-serves : goal.refill-answer-requires-clause-serves
refill-answer-requires-clause-serves g c lives within =
    let x = c.args.self.now in
    let works = c.requires.may.works in
    let few = runs_few g.S.Slot.shown g.R.Ord.cmp g.R.Record.record_of g.R.Record.WIDTH x.sizes x.body x.supply works.runs.rest in
    record { bench = omega (arith, few, c.requires.may.few, works.serves.bench); places = omega (arith, few, c.requires.may.few, works.serves.places) }

pub returns : goal.returns
returns g c =
    let m = c.refill-answer in
    let e = m.ensures in
    let home = e.home in
    let shown = g.S.Slot.shown in
    let cmp = g.R.Ord.cmp in
    let record_of = g.R.Record.record_of in
    let width = g.R.Record.WIDTH in
    let x = c.args.self.now in
    let n = x.sizes in
    let works = c.requires.may.works in
    let rest = works.runs.rest in
    let a = x.body in
    let b = record a { runs = m.new.runs; lanes = m.new.lanes } in
    let s = x.supply in
    let t = m.new.supply in
    let v = m.new.self in
    let none = rest.no_job in
    let none' = ap (λ v. v.items) e.jobs ∙ none in
    let no_row = c.free_slots-free.ensures.no_row in
    let kept = any_answer (BodyKept shown a b s t) m.result
    (ok-map m.result (λ r. kept-refilled shown a b s t r.kept r.all_tell _ r.transfers none none' refl e.internal_room e.external_room (ap (λ h. h.0) home) (ap (λ h. h.1) home) works.runs.no_row no_row) e.refilled)
    (λ err. absurd (e.device_alone err))
    (λ number err. (let p = (e.device number err).parts in kept-refilled shown a b s t p.kept p.all_tell _ p.transfers none none' refl e.internal_room e.external_room (ap (λ h. h.0) home) (ap (λ h. h.1) home) works.runs.no_row no_row)) in
    record {
      kept = kept-step x b t v m.new.sources kept no_row e.rest e.room (λ before. omega (arith, e.within, e.room));
      readied = ok-map3 m.result
          (λ all r rm. (
          let may = subst (λ w. MayFetch shown width w (sources_of b.runs b.lanes.idle t)) (e.rest.workers ∙ works.workers) rm in
          let ready = readied-refilled shown cmp record_of width n a b s t v.items rest kept c.requires.may.few r may none' e.batch x.extract.room (omega (arith, works.room, batch_some n works.runs.range)) all in
          readies-step x b t works kept no_row v m.new.sources e.rest e.room (omega (arith, e.within, e.room)) (subst (λ l. Readied shown cmp record_of width n l v.items a b s t) (sym c.requires.empty) ready)))
          (e.all refl)
          e.refilled
          e.may;
      few = ok-map m.result (λ r. omega (arith, r.external, c.requires.may.few)) e.refilled;
      failed = by_fault (FailsAlone shown (record x { body = b; supply = t; extract = v; sources = m.new.sources })) m.result e.device_alone (λ number err. failed-right number (body_slots shown b) t.kept (e.device number err).failed);
      pays = pays-by m.result
          (ok-map m.result (λ r. costs-refilled shown n a b s t rest.block works.runs.no_row no_row none none' r.transfers refl r.in_memory r.weights) e.refilled)
          (λ err. absurd (e.device_alone err))
          (λ number err. stops-refilled shown n a b s t rest.block works.runs.no_row no_row none none' (e.device number err).parts.transfers (omega arith));
    }

pub refill-answer-requires-clause-empty : goal.refill-answer-requires-clause-empty
refill-answer-requires-clause-empty g c = assumption
