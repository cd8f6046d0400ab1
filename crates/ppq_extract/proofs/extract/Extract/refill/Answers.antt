use Rattle.std.proofs.Common.{◌≡◌, ◌-◌, ◌++◌, length, take, drop, sym, ap, ◌∙◌, subst, arith}
use Rattle.ppq_fetch.specs.ppq_record.Bag.{front}
use Rattle.ppq_fetch.specs.Taking.{wanted}
use Rattle.ppq_fetch.specs.Fetching.{source_items, MayFetch}
use Rattle.ppq_extract.specs.Extracted.{Held, sources_of}
use Rattle.ppq_extract.proofs.Thinning.{thin_may}
use Rattle.ppq_extract.proofs.Refilling.{refilled, written}
use Rattle.ppq_extract.proofs.extract.Extract.refill.Goals as goal

pub returns-in-Ok-clause-refilled : goal.returns-in-Ok-clause-refilled
returns-in-Ok-clause-refilled g c =
    let t = c.take_from_runs-taken in
    let items = c.self.inside.records.items in
    let d = c.deref_mut-2.ensures in
    let n : c.in-Ok.n - 0 ≡ c.in-Ok.n = omega arith in
    let same = written c.in-Ok.n (c.in-Ok.n - 0) c.self.inside.records.len t.new.records items n (t.ensures.room.out ∙ ap length d.value) (sym d.len ∙ ap length d.value) in
    refilled g.R.Ord.cmp g.R.Record.record_of g.R.Record.WIDTH g.S.Slot.shown c.args.below (sources_of c.args.runs.now c.args.lanes.now.idle (g.P.Supply.stock c.args.supply.now))
    t.new.runs.internal.items c.drop_emptied.new.runs.items t.new.runs.external.items c.drop_emptied-in-Ok.new.runs.items t.new.idle (g.P.Supply.stock t.new.supply)
    (take c.in-Ok.n t.new.records) (take (c.in-Ok.n - 0) (take c.self.inside.records.len (t.new.records ++ drop (length t.new.records) items))) same
    c.in-Ok.ensures.fetched c.drop_emptied.ensures.lost c.drop_emptied-in-Ok.ensures.lost c.drop_emptied.ensures.some c.drop_emptied-in-Ok.ensures.some

pub returns-in-Ok-clause-front : goal.returns-in-Ok-clause-front
returns-in-Ok-clause-front g c = λ ts rs.
    let t = c.take_from_runs-taken in
    let items = c.self.inside.records.items in
    let d = c.deref_mut-2.ensures in
    let n : c.in-Ok.n - 0 ≡ c.in-Ok.n = omega arith in
    let same = written c.in-Ok.n (c.in-Ok.n - 0) c.self.inside.records.len t.new.records items n (t.ensures.room.out ∙ ap length d.value) (sym d.len ∙ ap length d.value) in
    let bag = source_items g.R.Record.record_of g.R.Record.WIDTH g.S.Slot.shown (sources_of c.args.runs.now c.args.lanes.now.idle (g.P.Supply.stock c.args.supply.now)) in
    same ∙ (c.in-Ok.ensures.front ts rs ∙ ap (λ k. front g.R.Ord.cmp bag (wanted g.R.Ord.cmp k c.args.below bag)) (ap length d.value ∙ ap (λ (h : Held g.row.R.Denot). h.room) c.self.view_is))

pub returns-in-Ok-clause-may : goal.returns-in-Ok-clause-may
returns-in-Ok-clause-may g c =
    let t = c.take_from_runs-taken in
    thin_may t.new.runs.internal.items c.drop_emptied.new.runs.items t.new.runs.external.items c.drop_emptied-in-Ok.new.runs.items c.drop_emptied.ensures.lost c.drop_emptied-in-Ok.ensures.lost
    g.S.Slot.shown t.new.idle (g.P.Supply.stock t.new.supply) g.R.Record.WIDTH t.new.bench.workers
    (subst (λ k. MayFetch g.S.Slot.shown g.R.Record.WIDTH k (sources_of t.new.runs t.new.idle (g.P.Supply.stock t.new.supply))) (sym t.ensures.room.workers) c.in-Ok.ensures.may)

pub returns-in-Ok-clause-sources : goal.returns-in-Ok-clause-sources
returns-in-Ok-clause-sources g c = (returns-in-Ok-clause-may g c).sources
