use Rattle.std.proofs.Common.{[], ap, arith, inr}
use Rattle.ppq_queue.specs.Stores.{Refuses}
use Rattle.ppq_queue.proofs.Amounts.{internal_count}
use Rattle.ppq_queue.proofs.Moves.{ok-map}
use Rattle.ppq_queue.proofs.Stored.{kept-stored, may_store, moved-in_blocks, short-merged}
use Rattle.ppq_queue.proofs.Paying.{pays-more, pays-stored}
use Rattle.ppq_queue.proofs.Stores.{by_fault, stays-step, same-sources, holds-runs, lacks-runs}
use Rattle.ppq_queue.proofs.store.Store.merge_runs.Goals as goal

pub store_buffers-answer-requires-clause-room : goal.store_buffers-answer-requires-clause-room
store_buffers-answer-requires-clause-room g c lives within =
    let x = c.args.self.now in
    let runs = c.requires.may.works.runs in
    may_store g.S.Slot.shown g.R.Ord.cmp g.R.Record.record_of g.R.Record.WIDTH x.sizes x.body x.supply 0 runs.rest runs.range runs.budget c.requires.may.few (omega arith)

pub returns : goal.returns
returns g c =
    let shown = g.S.Slot.shown in
    let cmp = g.R.Ord.cmp in
    let record_of = g.R.Record.record_of in
    let width = g.R.Record.WIDTH in
    let works = c.requires.may.works in
    let runs = works.runs in
    let m = c.store_buffers-answer in
    let e = m.ensures in
    let x = c.args.self.now in
    let a = x.body in
    let b = m.new.body in
    let s = x.supply in
    let t = m.new.supply in
    let home = e.home in
    let no_row = c.free_slots-free.ensures.no_row in
    let kept = kept-stored shown a b s t e.kept e.tells 0 e.writes e.rooms (ap (λ h. h.0) home) (ap (λ h. h.1) home) runs.no_row no_row in
    record {
      leaves = record {
        stays = stays-step x b t x.sources kept no_row same-sources;
        holds = ok-map m.result (λ stored. holds-runs x b t works kept no_row x.sources same-sources (moved-in_blocks shown cmp record_of width x.sizes a b s t runs.rest kept e.size e.takes_back e.lanes [] (omega (arith, c.requires.some)) c.requires.may.few runs.no_row no_row stored)) e.stored;
        refused = by_fault (Refuses shown cmp record_of width [] [] x (record x { body = b; supply = t })) m.result
            (λ err. (let short = short-merged shown cmp record_of width x.sizes a b s t runs.rest kept e.size e.takes_back e.lanes runs.no_row no_row (e.none_free err) in lacks-runs x b t works kept no_row x.sources same-sources short.moved (omega (arith, c.requires.some, internal_count a.runs.internal.items)) (inr (omega (arith, short.short)))))
            (λ number err. (e.device number err).failed);
      };
      pays = pays-more (omega arith) (omega arith) (omega arith) (omega arith) (pays-stored shown x.sizes a b s t runs.rest.block runs.no_row no_row m.result 0 e.counted);
      none = ok-map m.result (λ stored. stored.internal) e.stored;
    }

pub store_buffers-answer-requires-clause-some : goal.store_buffers-answer-requires-clause-some
store_buffers-answer-requires-clause-some g c = assumption

pub store_buffers-answer-requires-clause-ascend : goal.store_buffers-answer-requires-clause-ascend
store_buffers-answer-requires-clause-ascend g c = grind arith
