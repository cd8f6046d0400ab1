use Rattle.std.proofs.Common.{rules}
use Rattle.std.proofs.lemmas.Fn.{always_returns_same}
use Rattle.ppq_record.specs.Order.{is_before}
use Rattle.ppq_record.proofs.Fronts.{ranks, sorted_is}
use Rattle.ppq_record.proofs.bag.sort.Goals as goal

pub returns : goal.returns
returns g c =
    let laws = c.record_laws.ensures in
    let sorted = c.sort_unstable_by.ensures in
    sorted_is laws.order laws.same _ _ sorted.permutation (sorted.sorted (is_before g.R.Ord.cmp) (ranks laws.order) (always_returns_same _ _ _ (λ a r q k. search rules)))
