use Rattle.std.proofs.Common.{◌+◌, map, take, slice_set, refl, ◌∙◌, arith, length-set}
use Rattle.std.proofs.lemmas.List.{length-map}
use Rattle.ppq_fetch.proofs.Marking.{marked_none, marked_more, marked_few, marked_all}
use Rattle.ppq_fetch.proofs.mark.mark_all.Goals as goal

pub loop-i-init : goal.loop-i-init
loop-i-init g c = record { same = refl; marked = marked_none g.R.Ord.cmp c.args.edge.now }

pub overflow_add-sum : goal.overflow_add-sum
overflow_add-sum g c =
    let l = c.loop-i in
    let n = c.count_inside-count in
    let more = marked_more g.R.Ord.cmp c.args.edge.now g.Q.Loaded.list c.args.runs.now l.places l.i l.sum n.result c.index-runs-i.result c.loop-i-test.true (l.invariant.same ∙ c.requires.places) c.index-runs-i.is n.ensures.within n.ensures.count n.ensures.whole l.invariant.marked in
    omega (arith, marked_few g.R.Ord.cmp c.args.edge.now (map g.Q.Loaded.list c.args.runs.now) (l.i + 1) (take (l.i + 1) (slice_set l.places l.i n.result)) (l.sum + n.result) more, c.requires.few)

pub loop-i-preserved : goal.loop-i-preserved
loop-i-preserved g c =
    let l = c.loop-i in
    let n = c.count_inside-count in
    record {
      same = length-set l.places l.i n.result ∙ l.invariant.same;
      marked = marked_more g.R.Ord.cmp c.args.edge.now g.Q.Loaded.list c.args.runs.now l.places l.i l.sum n.result c.index-runs-i.result c.loop-i-test.true (l.invariant.same ∙ c.requires.places) c.index-runs-i.is n.ensures.within n.ensures.count n.ensures.whole l.invariant.marked;
    }

pub returns-clause-marked : goal.returns-clause-marked
returns-clause-marked g c =
    let l = c.loop-i in
    marked_all g.R.Ord.cmp c.args.edge.now (map g.Q.Loaded.list c.args.runs.now) l.places l.i l.sum (omega (arith, c.loop-i-test.false, length-map c.args.runs.now g.Q.Loaded.list)) (omega (arith, c.loop-i-test.false, l.invariant.same, c.requires.places)) l.invariant.marked
