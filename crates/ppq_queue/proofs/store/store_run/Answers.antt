use Rattle.std.proofs.Common.{length, ap, arith}
use Rattle.ppq_queue.specs.Stores.{RunRefused}
use Rattle.ppq_queue.proofs.Moves.{ok-map}
use Rattle.ppq_queue.proofs.Stored.{kept-stored, may_store, moved-stored, short-stored}
use Rattle.ppq_queue.proofs.Paying.{pays-stored}
use Rattle.ppq_queue.proofs.Stores.{by_fault}
use Rattle.ppq_queue.proofs.store.store_run.Goals as goal

pub store_sorted-answer-requires-clause-room : goal.store_sorted-answer-requires-clause-room
store_sorted-answer-requires-clause-room g c lives within =
    let runs = c.requires.may.runs in
    may_store g.S.Slot.shown g.R.Ord.cmp g.R.Record.record_of g.R.Record.WIDTH c.args.sizes c.args.body.now c.args.supply.now (length c.args.sorted.now) runs.rest runs.range runs.budget c.requires.may.few c.requires.may.most

pub returns : goal.returns
returns g c =
    let shown = g.S.Slot.shown in
    let runs = c.requires.may.runs in
    let m = c.store_sorted-answer in
    let e = m.ensures in
    let a = c.args.body.now in
    let b = m.new.body in
    let s = c.args.supply.now in
    let t = m.new.supply in
    let n = length c.args.sorted.now in
    let home = e.home in
    let no_row = c.free_slots-free.ensures.no_row in
    let kept = kept-stored shown a b s t e.kept e.tells n e.writes e.rooms (ap (λ h. h.0) home) (ap (λ h. h.1) home) runs.no_row no_row in
    record {
      kept = record { body = kept; no_row = no_row };
      stored = ok-map m.result (moved-stored shown g.R.Ord.cmp g.R.Record.record_of g.R.Record.WIDTH c.args.sizes a b s t runs.rest kept e.size e.takes_back e.lanes c.args.sorted.now c.requires.may.some c.requires.ascends c.requires.may.few runs.no_row no_row) e.stored;
      refused = by_fault (RunRefused shown g.R.Ord.cmp g.R.Record.record_of g.R.Record.WIDTH c.args.sizes n a b s t) m.result
          (λ err. short-stored shown g.R.Ord.cmp g.R.Record.record_of g.R.Record.WIDTH c.args.sizes a b s t runs.rest kept e.size e.takes_back e.lanes c.args.sorted.now c.requires.may.some c.requires.ascends runs.no_row no_row (e.none_free err))
          (λ number err. (e.device number err).stopped.failed);
      pays = pays-stored shown c.args.sizes a b s t runs.rest.block runs.no_row no_row m.result n e.counted;
    }

pub store_sorted-answer-requires-clause-some : goal.store_sorted-answer-requires-clause-some
store_sorted-answer-requires-clause-some g c = assumption

pub store_sorted-answer-requires-clause-ascend : goal.store_sorted-answer-requires-clause-ascend
store_sorted-answer-requires-clause-ascend g c = grind arith
