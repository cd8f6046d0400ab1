use Rattle.std.proofs.Common.{length, ap, ◌∙◌}
use Rattle.ppq_heap.proofs.Shares.{leasts-length}
use Rattle.ppq_heap.proofs.heaps.Heaps.into_parts.Goals as goal

pub returns-clause-leaves : goal.returns-clause-leaves
returns-clause-leaves g c =
    leasts-length g.R.Ord.cmp c.self.inside.heaps.items c.self.inside.tree.items c.self.invariant.1 ∙ ap (λ s. length s.heaps) c.self.view_is
