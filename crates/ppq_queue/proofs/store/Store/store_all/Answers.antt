use Rattle.std.proofs.Common.{◌≡◌, ◌*◌, length, arith, ap}
use Rattle.ppq_heap.specs.Heaps.{items_of}
use Rattle.ppq_spill.proofs.ppq_counts.Accounts.{costs-beside}
use Rattle.ppq_queue.proofs.Paying.{pays_ok, pays-more, pays-next, pays-beside, pays-given}
use Rattle.ppq_queue.proofs.Stores.{heaps-same, leaves-beside, leaves-after, leaves-given, not_ok}
use Rattle.ppq_queue.proofs.store.Store.store_all.Goals as goal

pub store_heaps-requires-clause-may : goal.store_heaps-requires-clause-may
store_heaps-requires-clause-may g c κs within =
    let e = c.in_ok-store_extract.ensures in
    record { works = e.leaves.holds.works; emptied = e.emptied; most = omega (arith, c.requires.heaps, ap (λ n. n.memory) e.leaves.stays.kept.sizes) }

pub returns-in_err-store_extract : goal.returns-in_err-store_extract
returns-in_err-store_extract g c =
    let given = c.from_residual.ensures.1 in
    let one = c.in_err-store_extract.ensures in
    let h = items_of c.args.heaps.now in
    record {
      leaves = record { leaves = leaves-given given (leaves-beside h one.leaves); heaps = heaps-same; emptied = not_ok _ _ _ given; pays = pays-more (omega arith) (omega arith) (omega arith) (omega arith) (pays-beside (length h) (pays-given given one.pays)) };
      none = not_ok _ _ _ given;
    }

pub returns : goal.returns
returns g c =
    let one = c.in_ok-store_extract.ensures in
    let two = c.store_heaps.ensures in
    let h = items_of c.args.heaps.now in
    let runs = length c.args.heaps.now.heaps in
    let block = c.args.self.now.sizes.block in
    let same : c.store_extract.new.self.sizes.block * runs ≡ block * runs = ap (λ n. n.block * runs) one.leaves.stays.kept.sizes in
    let none = ap length one.emptied.no_extract in
    record {
      leaves = record {
        leaves = leaves-after (leaves-beside h one.leaves) two.leaves.leaves;
        heaps = two.leaves.heaps;
        emptied = two.leaves.emptied;
        pays = pays-next (omega (arith, same, none)) (omega arith) (omega (arith, same, none)) (omega arith) (costs-beside (length h) (pays_ok one.pays)) two.leaves.pays;
      };
      none = two.none;
    }

pub store_extract-requires-clause-works : goal.store_extract-requires-clause-works
store_extract-requires-clause-works g c = assumption
