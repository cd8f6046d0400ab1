use Rattle.std.proofs.Common.{ap, arith}
use Rattle.ppq_queue.proofs.Paying.{pays_ok, pays-more, pays-next, pays-given}
use Rattle.ppq_queue.proofs.Stores.{leaves-after, leaves-given, not_ok}
use Rattle.ppq_queue.proofs.store.Store.store_extract.Goals as goal

pub returns-in_err-settle_some : goal.returns-in_err-settle_some
returns-in_err-settle_some g c =
    let given = c.from_residual.ensures.1 in
    let one = c.in_err-settle_some.ensures.settles.levels in
    record { leaves = leaves-given given one.leaves; emptied = not_ok _ _ _ given; pays = pays-more (omega arith) (omega arith) (omega arith) (omega arith) (pays-given given one.pays) }

pub store_rest-requires-clause-may : goal.store_rest-requires-clause-may
store_rest-requires-clause-may g c κs within = (let e = c.in_ok-settle_some.ensures.settles in record { works = e.levels.leaves.holds.works; few = e.few })

pub returns : goal.returns
returns g c =
    let one = c.in_ok-settle_some.ensures.settles.levels in
    let two = c.store_rest.ensures in
    let stays = one.leaves.stays in
    let same = ap (λ n. n.block) stays.kept.sizes in
    record {
      leaves = leaves-after one.leaves two.leaves;
      emptied = two.emptied;
      pays = pays-next (omega (arith, stays.extract, same)) (omega arith) (omega (arith, stays.extract, same)) (omega arith) (pays_ok one.pays) two.pays;
    }

pub settle_some-requires-clause-works : goal.settle_some-requires-clause-works
settle_some-requires-clause-works g c = assumption
