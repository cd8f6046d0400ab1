use Rattle.std.proofs.Common.{◌<◌, ◌≤◌, ◌^◌, All, length, ap, subst, arith}
use Rattle.ppq_heap.specs.Heap.{Contents}
use Rattle.ppq_heap.specs.Heaps.{HasLeasts}
use Rattle.ppq_heap.proofs.Shares.{shares-all}
use Rattle.ppq_heap.proofs.heaps.Heaps.from_parts.Goals as goal

pub invariant_of-result : goal.invariant_of-result
invariant_of-result g c =
    let heaps = c.args.heaps.items in
    let same = c.as_slice.ensures.value in
    let few : length heaps < 2 ^ 32 = omega (arith, c.write_leasts.ensures.few, ap length same) in
    let within : All (λ (h : Contents g.row.R.Denot). (length h.items ≤ h.cap) × (h.cap < 2 ^ 32)) heaps = subst (All (λ (h : Contents g.row.R.Denot). (length h.items ≤ h.cap) × (h.cap < 2 ^ 32))) same c.write_leasts.ensures.within in
    (shares-all heaps c.requires.some few c.requires.caps within, subst (λ hs. HasLeasts g.R.Ord.cmp hs c.write_leasts.new.tree.items) same c.write_leasts.ensures.leasts)
