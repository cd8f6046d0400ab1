use Rattle.std.proofs.Common.{map, arith}
use Rattle.ppq_array.specs.Run.{items_of}
use Rattle.ppq_fetch.proofs.Sums.{loaded_of, loaded_long, long_two_of}
use Rattle.ppq_fetch.proofs.Marking.{total_within, marked_append}
use Rattle.ppq_fetch.proofs.mark.mark_runs.Goals as goal

pub mark_all-inside-requires-clause-few : goal.mark_all-inside-requires-clause-few
mark_all-inside-requires-clause-few g c = omega (arith, loaded_long c.args.internal.now c.args.external.now, long_two_of (map items_of c.args.internal.now) (map loaded_of c.args.external.now), c.requires.few)

pub mark_all-requires-clause-few : goal.mark_all-requires-clause-few
mark_all-requires-clause-few g c = omega (arith, loaded_long c.args.internal.now c.args.external.now, long_two_of (map items_of c.args.internal.now) (map loaded_of c.args.external.now), c.requires.few)

pub overflow_add-result : goal.overflow_add-result
overflow_add-result g c =
    let qs = map (items_of {R = g.row.R.Denot}) c.args.internal.now in
    let rs = map (loaded_of {S = g.row.S.Denot} {R = g.row.R.Denot}) c.args.external.now in
    let a = c.mark_all-inside in
    let b = c.mark_all in
    omega (arith, loaded_long c.args.internal.now c.args.external.now, long_two_of qs rs, c.requires.few, a.ensures.marked.counted, b.ensures.marked.counted, total_within a.new.places qs a.ensures.marked.within, total_within b.new.places rs b.ensures.marked.within)

pub returns-clause-marked : goal.returns-clause-marked
returns-clause-marked g c =
    let a = c.mark_all-inside in
    let b = c.mark_all in
    marked_append g.R.Ord.cmp c.args.edge.now (map items_of c.args.internal.now) (map loaded_of c.args.external.now) a.new.places b.new.places a.result b.result a.ensures.marked b.ensures.marked
