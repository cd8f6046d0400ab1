use Rattle.std.proofs.Common.{sym, ◌∙◌}
use Rattle.ppq_merge.proofs.Heads.{heads-length, AreParts-length}
use Rattle.ppq_merge.proofs.fronts.FrontsHeads.leaves.Goals as goal

pub returns : goal.returns
returns g c =
    let f = c.args.self.now in
    let qs = g.Q.Listing.lists f.runs.now in
    c.runs.ensures ∙ ((AreParts-length f.from.now f.to.now qs f.parts).1 ∙ sym (heads-length f.from.now f.to.now qs f.parts))
