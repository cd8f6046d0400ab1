use Rattle.std.proofs.Common.{take, ap, ◌∙◌}
use Rattle.ppq_merge.proofs.Used.{used_is}
use Rattle.ppq_merge.proofs.seat.first_used.Goals as goal

pub returns : goal.returns
returns c = ap (take c.args.count) (c.split_at.ensures.back ∙ used_is c.args.all.now)
