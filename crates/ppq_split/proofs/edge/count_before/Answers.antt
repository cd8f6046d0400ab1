use Rattle.std.proofs.Common.{sym, ◌∙◌, arith}
use Rattle.ppq_record.specs.Order.{is_before}
use Rattle.ppq_record.specs.Runs.{list_at}
use Rattle.ppq_record.proofs.Fronts.{ranks}
use Rattle.ppq_split.proofs.Windows.{window_up, window_down}
use Rattle.ppq_split.proofs.edge.count_before.Goals as goal

pub loop-low-preserved-then-does_pass : goal.loop-low-preserved-then-does_pass
loop-low-preserved-then-does_pass g c =
    let a = c.next_look-place.ensures.high in
    let b = c.loop-low.invariant.0 in
    (b, window_up (is_before g.R.Ord.cmp) (ranks c.record_laws.ensures.order) c.args.item.now c.args.is_lower (list_at (g.Q.Listing.lists c.args.runs.now) c.args.run) c.loop-low.low c.loop-low.high c.next_look-place.result c.at-other.result c.loop-low.invariant.1 c.next_look-place.ensures.high c.at-other.ensures (sym c.does_pass.ensures ∙ c.if-does_pass.true))

pub loop-low-preserved : goal.loop-low-preserved
loop-low-preserved g c =
    let a = c.next_look-place.ensures.high in
    let b = c.loop-low.invariant.0 in
    (omega arith, window_down (is_before g.R.Ord.cmp) (ranks c.record_laws.ensures.order) c.args.item.now c.args.is_lower (list_at (g.Q.Listing.lists c.args.runs.now) c.args.run) c.loop-low.low c.loop-low.high c.next_look-place.result c.at-other.result c.loop-low.invariant.1 c.next_look-place.ensures.low c.next_look-place.ensures.high c.at-other.ensures (sym c.does_pass.ensures ∙ c.if-does_pass.false))
