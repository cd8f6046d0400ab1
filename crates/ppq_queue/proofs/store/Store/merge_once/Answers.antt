use Rattle.std.proofs.Common.{◌+◌, ◌≤◌, [], ap, subst, sym, arith, refl, inl}
use Rattle.std.proofs.lemmas.Grind.{common_steps}
use Rattle.ppq_extract.specs.ppq_array.Holdings.{external_buffers}
use Rattle.ppq_extract.specs.ppq_array.Kept.{HasFailed}
use Rattle.ppq_extract.specs.ppq_fetch.Fetching.{fronts_in}
use Rattle.ppq_extract.specs.Extracted.{SourcesRest}
use Rattle.ppq_spill.specs.Leveling.{MayLevel, NoneForLevel}
use Rattle.ppq_queue.specs.Stores.{Refuses}
use Rattle.ppq_queue.proofs.Bounds.{arrays_few}
use Rattle.ppq_queue.proofs.Amounts.{count_some}
use Rattle.ppq_queue.proofs.Moves.{ok-map, ok-map2}
use Rattle.ppq_queue.proofs.Leveled.{kept-leveled, may_level, moved-leveled, fewer-leveled, lower-leveled, short-leveled, still_crowded}
use Rattle.ppq_queue.proofs.Slots.{slots-no_job}
use Rattle.ppq_queue.proofs.Paying.{pays-leveled}
use Rattle.ppq_queue.proofs.Stores.{by_fault, level_few, stays-step, holds-runs, lacks-runs}
use Rattle.ppq_queue.proofs.store.Store.merge_once.Goals as goal

pub merge_level-answer-requires-clause-may : goal.merge_level-answer-requires-clause-may
merge_level-answer-requires-clause-may g c lives within =
    let x = c.args.self.now in
    let works = c.requires.works in
    let may = may_level g.S.Slot.shown g.R.Ord.cmp g.R.Record.record_of g.R.Record.WIDTH x.sizes x.body x.supply works.runs.rest works.runs.range works.runs.budget in
    subst (λ w. MayLevel g.S.Slot.shown g.R.Record.WIDTH w x.body.runs.external.items x.body.lanes x.supply) (sym works.workers) may

pub merge_level-answer-requires-clause-room : goal.merge_level-answer-requires-clause-room
merge_level-answer-requires-clause-room g c lives within =
    let x = c.args.self.now in
    arrays_few g.S.Slot.shown g.R.Ord.cmp g.R.Record.record_of g.R.Record.WIDTH x.sizes x.body x.supply c.requires.works.runs.rest

pub returns : goal.returns
returns g c =
    let m = c.merge_level-answer in
    let e = m.ensures in
    let home = e.home in
    let shown = g.S.Slot.shown in
    let cmp = g.R.Ord.cmp in
    let record_of = g.R.Record.record_of in
    let width = g.R.Record.WIDTH in
    let works = c.requires.works in
    let rest = works.runs.rest in
    let x = c.args.self.now in
    let n = x.sizes in
    let level = c.args.level in
    let a = x.body in
    let b = record a { runs = record a.runs { external = m.new.arrays }; lanes = m.new.lanes } in
    let s = x.supply in
    let t = m.new.supply in
    let src = record x.sources { bench = m.new.bench } in
    let no_row = c.free_slots-free.ensures.no_row in
    let kept = kept-leveled shown a b s t e.kept e.tells e.calls.calls.stay e.lanes rest.no_job refl refl e.rooms (ap (λ h. h.0) home) (ap (λ h. h.1) home) works.runs.no_row no_row in
    let some = count_some shown width s.block a.runs.internal.items a.runs.external.items rest.internal rest.external in
    let rests : SourcesRest x.sources src = record { workers = e.workers; bench = e.bench; places = refl } in
    let holds = ok-map2 m.result
    (λ merged again. (
    let bounded : external_buffers m.new.arrays.items ≤ fronts_in m.new.arrays.items + n.workers = omega (arith, again.bounded, e.workers, works.workers) in
    let moved = moved-leveled shown cmp record_of width n a b s t rest kept e.size e.lanes refl merged.buffers level c.requires.level merged works.runs.no_row no_row bounded in
    holds-runs x b t works kept no_row src rests moved))
    e.merged e.again in
    let refused = by_fault (Refuses shown cmp record_of width [] [] x (record x { body = b; supply = t; sources = src })) m.result
    (λ err. (
    let none = subst (λ w. NoneForLevel shown level w a.runs.external.items m.new.arrays.items a.lanes m.new.lanes s t) works.workers (e.none_free err) in
    let short = short-leveled shown cmp record_of width n a b s t rest kept e.size e.lanes refl none.buffers level works.runs.no_row no_row none in
    lacks-runs x b t works kept no_row src rests short.moved (omega (arith, c.requires.more, level_few level a.runs.external.items, some)) (inl short.short)))
    (λ number err. subst (HasFailed number) (sym (slots-no_job shown b t e.lanes.no_job)) (e.device number err)) in
    record {
      leaves = record {
        levels = record {
          leaves = record { stays = stays-step x b t src kept no_row rests; holds = holds; refused = refused };
          internal = refl;
          crowded = λ err. (
              let none = subst (λ w. NoneForLevel shown level w a.runs.external.items m.new.arrays.items a.lanes m.new.lanes s t) works.workers (e.none_free err) in
              let short = short-leveled shown cmp record_of width n a b s t rest kept e.size e.lanes refl none.buffers level works.runs.no_row no_row none in
              record { level = still_crowded shown level n.workers a.runs.external.items m.new.arrays.items a.lanes m.new.lanes s t c.requires.level c.requires.more none; free = short.short });
          pays = pays-leveled shown n a b s t rest.block works.runs.no_row no_row m.result rest.no_job e.lanes.no_job refl e.counted;
        };
        lower = ok-map m.result (lower-leveled cmp record_of width shown level a.runs.external.items m.new.arrays.items s t c.requires.level) e.merged;
      };
      fewer = ok-map m.result (λ merged. fewer-leveled shown cmp record_of width n a b s t rest kept e.size e.lanes refl merged.buffers level c.requires.level merged) e.merged;
    }

pub merge_level-answer-requires-clause-level : goal.merge_level-answer-requires-clause-level
merge_level-answer-requires-clause-level g c = assumption

pub merge_level-answer-requires-clause-more : goal.merge_level-answer-requires-clause-more
merge_level-answer-requires-clause-more g c = assumption

pub merge_level-answer-requires-clause-worker : goal.merge_level-answer-requires-clause-worker
merge_level-answer-requires-clause-worker g c = omega arith

pub merge_level-answer-requires-clause-bench : goal.merge_level-answer-requires-clause-bench
merge_level-answer-requires-clause-bench g c = omega arith

pub merge_level-answer-requires-clause-ascend : goal.merge_level-answer-requires-clause-ascend
merge_level-answer-requires-clause-ascend g c = grind (arith, common_steps)
