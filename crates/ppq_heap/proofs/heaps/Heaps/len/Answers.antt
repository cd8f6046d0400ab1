use Rattle.std.proofs.Common.{◌≡◌, ◌≤◌, ◌*◌, length, sym, ap, ◌∙◌, subst}
use Rattle.ppq_heap.specs.Heaps.{cap_of, items_of}
use Rattle.ppq_heap.proofs.Shares.{shares_of, length_all}
use Rattle.ppq_heap.proofs.heaps.Heaps.len.Goals as goal

pub returns-clause-within : goal.returns-clause-within
returns-clause-within g c =
    let heaps = c.self.inside.heaps.items in
    let total : c.length_of_all.result ≡ length (items_of (shares_of heaps)) = c.length_of_all.ensures ∙ ap (λ hs. length (items_of (shares_of hs))) c.as_slice.ensures.value in
    let most = length_all heaps (cap_of heaps) c.self.invariant.0.within in
    subst (λ s. c.length_of_all.result ≤ length s.heaps * s.cap) c.self.view_is (subst (λ n. n ≤ length heaps * cap_of heaps) (sym total) most)
