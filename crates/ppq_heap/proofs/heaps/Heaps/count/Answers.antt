use Rattle.std.proofs.Common.{length, ap, ◌∙◌, arith}
use Rattle.ppq_heap.proofs.Shares.{leasts-length}
use Rattle.ppq_heap.proofs.heaps.Heaps.count.Goals as goal

pub returns-clause-count : goal.returns-clause-count
returns-clause-count g c =
    c.leaves.ensures.leaves ∙ (leasts-length g.R.Ord.cmp c.self.inside.heaps.items c.self.inside.tree.items c.self.invariant.1 ∙ ap (λ s. length s.heaps) c.self.view_is)

pub returns-clause-some : goal.returns-clause-some
returns-clause-some g c =
    omega (arith, c.leaves.ensures.leaves, leasts-length g.R.Ord.cmp c.self.inside.heaps.items c.self.inside.tree.items c.self.invariant.1, c.self.invariant.0.some)
