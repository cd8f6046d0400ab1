use Rattle.std.proofs.Common.{◌+◌, ◌<◌, ◌≤◌, ◌^◌, length, take, ap, ◌∙◌, subst, arith}
use Rattle.std.proofs.lemmas.List.{length-set}
use Rattle.std.proofs.lemmas.List.Elements.{All-more}
use Rattle.ppq_heap.specs.Heap.{Contents}
use Rattle.ppq_heap.proofs.Shares.{leasts_more, leasts_all}
use Rattle.ppq_heap.proofs.heaps.write_leasts.Goals as goal

pub loop-leaf-preserved : goal.loop-leaf-preserved
loop-leaf-preserved g c =
    let heaps = c.args.heaps.now in
    let leaves = c.loop-leaf.tree.items in
    let leaf = c.loop-leaf.leaf in
    let heap = c.index-heaps-leaf.result in
    let i = c.loop-leaf.invariant in
    let there : leaf < length heaps = omega (arith, c.loop-leaf-test.true, c.leaves-leaf-end.ensures.leaves, c.requires) in
    let put = c.put.ensures.items in
    record {
      leaves = ap length put ∙ (length-set leaves leaf c.least_of-least.result ∙ i.leaves);
      leasts = ap (take (leaf + 1)) put ∙ leasts_more g.R.Ord.cmp heaps leaves leaf heap c.least_of-least.result i.leaves there c.index-heaps-leaf.is c.least_of-least.ensures.value i.leasts;
      within = All-more (λ (h : Contents g.row.R.Denot). (length h.items ≤ h.cap) × (h.cap < 2 ^ 32)) heaps leaf heap there i.within
          (subst (λ (h : Contents g.row.R.Denot). (length h.items ≤ h.cap) × (h.cap < 2 ^ 32)) c.index-heaps-leaf.is c.least_of-least.ensures.within);
    }

pub returns-clause-leasts : goal.returns-clause-leasts
returns-clause-leasts g c =
    leasts_all g.R.Ord.cmp c.args.heaps.now c.loop-leaf.tree.items c.loop-leaf.leaf c.loop-leaf.invariant.leaves
    (omega (arith, c.loop-leaf-test.false, c.leaves-leaf-end.ensures.leaves, c.requires)) c.loop-leaf.invariant.leasts
