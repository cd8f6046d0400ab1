use Rattle.std.proofs.Common.{sym, ◌∙◌}
use Rattle.ppq_tree.proofs.ppq_record.Fronts.{ranks, no_tie}
use Rattle.ppq_heap.proofs.Shares.{pushed_none, pushed_some}
use Rattle.ppq_heap.proofs.heaps.push.Goals as goal
use Rattle.ppq_heap.proofs.heaps.push.Goals.{in-None, in-Some}

pub returns-in-Ok-clause-least : goal.returns-in-Ok-clause-least
returns-in-Ok-clause-least g c =
    let laws = c.record_laws.ensures in
    let old = c.args.heap.now.items in
    let new = c.try_push.new.self.items in
    elim c.match-min.branch [
      | in-None w ↦ pushed_none g.R.Ord.cmp (ranks laws.order) (no_tie laws.order laws.same) old new c.args.item c.match-min.is_least (sym c.min.ensures.value ∙ w.in-None.is) c.in-Ok.ensures.added w.is_least-is
      | in-Some w ↦ pushed_some g.R.Ord.cmp (ranks laws.order) (no_tie laws.order laws.same) old new c.args.item w.in-Some.least c.match-min.is_least (sym c.min.ensures.value ∙ w.in-Some.is) c.in-Ok.ensures.added (w.is_least-is ∙ w.is_less-is_least.ensures)
    ]
