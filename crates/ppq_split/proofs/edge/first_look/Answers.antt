use Rattle.std.proofs.Common.{sym, ◌∙◌, arith}
use Rattle.ppq_record.specs.Order.{is_before}
use Rattle.ppq_record.specs.Runs.{list_at}
use Rattle.ppq_record.proofs.Fronts.{ranks}
use Rattle.ppq_split.proofs.Windows.{window_all, window_up, window_down}
use Rattle.ppq_split.proofs.edge.first_look.Goals as goal

pub returns-then-near-len : goal.returns-then-near-len
returns-then-near-len g c =
    window_all (is_before g.R.Ord.cmp) (ranks c.record_laws.ensures.order) c.args.item.now c.args.is_lower (list_at (g.Q.Listing.lists c.args.runs.now) c.args.run) c.len-len.result c.len-len.ensures

pub returns-then-does_pass : goal.returns-then-does_pass
returns-then-does_pass g c =
    let q = list_at (g.Q.Listing.lists c.args.runs.now) c.args.run in
    let lt = is_before g.R.Ord.cmp in
    let o = ranks c.record_laws.ensures.order in
    window_up lt o c.args.item.now c.args.is_lower q 0 c.len-len.result c.args.near c.at-other.result (window_all lt o c.args.item.now c.args.is_lower q c.len-len.result c.len-len.ensures) (omega arith) c.at-other.ensures (sym c.does_pass.ensures ∙ c.if-does_pass.true)

pub returns : goal.returns
returns g c =
    let q = list_at (g.Q.Listing.lists c.args.runs.now) c.args.run in
    let lt = is_before g.R.Ord.cmp in
    let o = ranks c.record_laws.ensures.order in
    window_down lt o c.args.item.now c.args.is_lower q 0 c.len-len.result c.args.near c.at-other.result (window_all lt o c.args.item.now c.args.is_lower q c.len-len.result c.len-len.ensures) (omega arith) (omega arith) c.at-other.ensures (sym c.does_pass.ensures ∙ c.if-does_pass.false)
