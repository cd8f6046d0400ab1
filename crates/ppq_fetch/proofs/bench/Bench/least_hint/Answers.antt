use Rattle.std.proofs.Common.{◌↔◌, IsNone, ap, subst}
use Rattle.ppq_hints.specs.ppq_tree.Tree.{HasNoItems}
use Rattle.ppq_fetch.specs.Bench.{Marks}
use Rattle.ppq_fetch.proofs.bench.Bench.least_hint.Goals as goal

pub returns-clause-none : goal.returns-clause-none
returns-clause-none g c = subst (λ hs. IsNone c.least.result ↔ HasNoItems hs) (ap (λ (b : Marks g.row.R.Denot). b.hints) c.self.view_is) c.least.ensures.none
