use Rattle.std.proofs.Common.{sym, ◌∙◌}
use Rattle.ppq_script.specs.Parts.{commands_of}
use Rattle.ppq_script.specs.Words.{words}
use Rattle.ppq_script.proofs.Parts.{goes-begin, line-goes_on, line-ends}
use Rattle.ppq_script.proofs.part.session_lines.Goals as goal

pub lines-init : goal.lines-init
lines-init g c =
    let w = words g.R.PartialEq g.R.PartialOrd g.R.Ord g.R.Record g.R.Fields in
    λ workers session opened. goes-begin w workers session (commands_of c.args.items.now) opened

pub lines-preserved : goal.lines-preserved
lines-preserved g c =
    let w = words g.R.PartialEq g.R.PartialOrd g.R.Ord g.R.Record g.R.Fields in
    λ workers session opened. line-goes_on w workers session c.args.items.now opened c.lines.count (c.lines.invariant workers session opened) _ (sym c.ends.ensures ∙ c.lines-test.true)

pub returns : goal.returns
returns g c =
    let w = words g.R.PartialEq g.R.PartialOrd g.R.Ord g.R.Record g.R.Fields in
    λ workers session opened. line-ends w workers session c.args.items.now opened c.lines.count (c.lines.invariant workers session opened) _ (sym c.ends.ensures ∙ c.lines-test.false)
