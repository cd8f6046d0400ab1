use Rattle.std.proofs.Common.{◌∙◌}
use Rattle.ppq_tree.proofs.Used.{used_is}
use Rattle.ppq_tree.proofs.apart.used.Goals as goal

pub returns : goal.returns
returns g c = c.split_at.ensures.back ∙ used_is c.args.all.now
