use Rattle.std.proofs.Common.{◌+◌, ◌*◌, ◌≤◌, length, arith, ap}
use Rattle.std.proofs.Math.Nat.{mul-le-mul_left}
use Rattle.ppq_queue.proofs.HeapStores.{none_left, one_emptied}
use Rattle.ppq_spill.proofs.ppq_counts.Accounts.{costs-same, costs-more, costs-then}
use Rattle.ppq_queue.proofs.Paying.{ok_pays, pays_ok, pays-next, pays-given}
use Rattle.ppq_queue.proofs.Stores.{heaps-same, heaps-more, leaves-same, leaves-on, leaves-after, leaves-given, not_ok}
use Rattle.ppq_queue.proofs.store.Store.store_heaps.Goals as goal

pub storing-init : goal.storing-init
storing-init g c = record { so_far = record { leaves = leaves-same c.requires.may.works; heaps = heaps-same; emptied = c.requires.may.emptied; pays = ok_pays (costs-more (omega arith) (omega arith) (costs-same _)) }; stored = λ other k. absurd (omega (arith, k)) }

pub store_heap-requires-clause-may : goal.store_heap-requires-clause-may
store_heap-requires-clause-may g c κs within =
    let i = c.storing.invariant.so_far in
    record { works = i.leaves.holds.works; emptied = i.emptied; most = omega (arith, i.heaps.fewer, c.requires.may.most, ap (λ n. n.memory) i.leaves.stays.kept.sizes) }

pub store_heap-requires-clause-place : goal.store_heap-requires-clause-place
store_heap-requires-clause-place g c κs within = omega (arith, c.storing.invariant.so_far.heaps.count, c.count-count.ensures.count)

pub storing-preserved : goal.storing-preserved
storing-preserved g c =
    let i = c.storing.invariant in
    let e = c.in_ok-store_heap.ensures in
    let same = ap (λ n. n.block) i.so_far.leaves.stays.kept.sizes in
    let none = ap length i.so_far.emptied.no_extract in
    record {
      so_far = record {
        leaves = leaves-on i.so_far.leaves e.leaves.leaves;
        heaps = heaps-more i.so_far.heaps e.leaves.heaps;
        emptied = e.leaves.emptied;
        pays = ok_pays (costs-more (omega (arith, same, none)) (omega arith) (costs-then (pays_ok i.so_far.pays) (pays_ok e.leaves.pays)));
      };
      stored = one_emptied c.storing.place c.storing.heaps c.store_heap.new.heaps i.stored e.only e.share.emptied;
    }

pub returns-in_err-store_heap : goal.returns-in_err-store_heap
returns-in_err-store_heap g c =
    let i = c.storing.invariant.so_far in
    let e = c.in_err-store_heap.ensures in
    let given = c.from_residual.ensures.1 in
    let same = ap (λ n. n.block) i.leaves.stays.kept.sizes in
    let none = ap length i.emptied.no_extract in
    let count = length c.args.heaps.now.heaps in
    let within : c.storing.place + 1 ≤ count = omega (arith, c.count-count.ensures.count) in
    let most : c.args.self.now.sizes.block * (c.storing.place + 1) ≤ c.args.self.now.sizes.block * count = mul-le-mul_left c.args.self.now.sizes.block within in
    record {
      leaves = record {
        leaves = leaves-given given (leaves-after i.leaves e.leaves.leaves);
        heaps = heaps-more i.heaps e.leaves.heaps;
        emptied = not_ok _ _ _ given;
        pays = pays-next (omega (arith, same, none, most)) within (omega (arith, same, none, most)) within (pays_ok i.pays) (pays-given given e.leaves.pays);
      };
      none = not_ok _ _ _ given;
    }

pub returns : goal.returns
returns g c =
    let i = c.storing.invariant in
    let count = length c.args.heaps.now.heaps in
    let within : c.storing.place ≤ count = omega (arith, c.count-count.ensures.count) in
    let most : c.args.self.now.sizes.block * c.storing.place ≤ c.args.self.now.sizes.block * count = mul-le-mul_left c.args.self.now.sizes.block within in
    record {
      leaves = record { leaves = i.so_far.leaves; heaps = i.so_far.heaps; emptied = i.so_far.emptied; pays = ok_pays (costs-more (omega (arith, most)) within (pays_ok i.so_far.pays)) };
      none = none_left c.storing.heaps (λ place k. i.stored place (omega (arith, k, i.so_far.heaps.count, c.count-count.ensures.count)));
    }
