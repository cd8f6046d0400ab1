use Rattle.std.proofs.Common.{◌≡◌, ◌<◌, length, take, slice_index_or, ap, ◌∙◌, arith}
use Rattle.std.specs.Prelude.{count_by}
use Rattle.ppq_tree.specs.ppq_record.Order.{is_before}
use Rattle.ppq_tree.specs.ppq_record.Bag.{IsSameBag, least, first_of}
use Rattle.ppq_tree.proofs.ppq_record.Order.{IsSameBag-length, in_order-same_bag}
use Rattle.ppq_tree.proofs.ppq_record.Fronts.{ranks, ascending-same_bag}
use Rattle.ppq_heap.specs.Heaps.{items_in, items_of}
use Rattle.ppq_heap.proofs.Shares.{counts-set, shares-fewer, leasts-set_same}
use Rattle.ppq_heap.proofs.heaps.Heaps.sort_share.Given as given
use Rattle.ppq_heap.proofs.heaps.Heaps.sort_share.Goals as goal

there : (g : given.Over) (c : goal.After-self-1 g) → c.args.place < length c.self.inside.heaps.items
there g c = omega (arith, c.requires, ap (λ s. length s.heaps) c.self.view_is)

same_bag : (g : given.Over) (c : goal.After-self-1 g) → IsSameBag c.sort_in_place.new.self.items c.index_mut.result.now.items
same_bag g c p = ap (count_by p) c.sort_in_place.ensures.items ∙ in_order-same_bag (is_before g.R.Ord.cmp) (ranks c.record_laws.ensures.order) c.index_mut.result.now.items p

pub invariant_of-self : goal.invariant_of-self
invariant_of-self g c =
    let heaps = c.self.inside.heaps.items in
    let old = c.index_mut.result.now in
    let new = c.sort_in_place.new.self in
    let cmp = g.R.Ord.cmp in
    let laws = c.record_laws.ensures in
    let long : length new.items ≡ length old.items = IsSameBag-length new.items old.items (same_bag g c) in
    let first : least cmp new.items ≡ least cmp old.items = ap (λ xs. first_of (take 1 xs)) (ascending-same_bag laws.order laws.same new.items old.items (same_bag g c)) in (
      shares-fewer heaps c.args.place old new (there g c) c.self.invariant.0 c.index_mut.ensures.value (omega arith) c.sort_in_place.ensures.cap,
      leasts-set_same cmp heaps c.self.inside.tree.items c.args.place new old c.self.invariant.1 (first ∙ ap (λ h. least cmp h.items) c.index_mut.ensures.value),
    )

pub returns-clause-bag : goal.returns-clause-bag
returns-clause-bag g c p =
    let heaps = c.self.inside.heaps.items in
    let old = c.index_mut.result.now in
    let new = c.sort_in_place.new.self in
    let swapped = counts-set p heaps c.args.place new old (there g c) in
    let read : count_by p old.items ≡ count_by p (slice_index_or heaps c.args.place old).items = ap (λ h. count_by p h.items) c.index_mut.ensures.value in
    let all : count_by p (items_in heaps) ≡ count_by p (items_of c.args.self.now) = ap (λ s. count_by p (items_of s)) c.self.view_is in
    let same = same_bag g c p in
    omega (arith, swapped, read, all, same)
