use Rattle.std.proofs.Common.{ap₂, ◌∙◌, nat_lt}
use Rattle.std.specs.Prelude.{◌||◌, ◌&&◌, not}
use Rattle.ppq_tree.proofs.Carried.{ahead_is}
use Rattle.ppq_tree.proofs.matches.is_ahead.Goals as goal

pub returns : goal.returns
returns g c =
    ap₂ (λ a b. a || (not b && nat_lt c.args.rival c.args.best)) c.is_less-is_less.ensures c.is_less-is_more.ensures
    ∙ ahead_is g.R.Ord.cmp c.record_laws.ensures.order c.args.other.now c.args.item.now c.args.rival c.args.best
