use Rattle.std.proofs.Common.{◌≡◌, ◌<◌, ◌≤◌, ◌∷◌, length, Some, slice_set, suc, refl, sym, ap, ◌∙◌, subst, arith}
use Rattle.ppq_tree.specs.ppq_record.Order.{is_before}
use Rattle.ppq_tree.specs.ppq_record.Bag.{IsSameBag, least}
use Rattle.ppq_tree.proofs.ppq_record.Order.{IsSameBag-length}
use Rattle.ppq_tree.proofs.ppq_record.Fronts.{ranks, no_tie}
use Rattle.ppq_heap.specs.Heaps.{items_of, share_at, HasLeasts, Left}
use Rattle.ppq_heap.proofs.Heap.{least_of_none}
use Rattle.ppq_heap.proofs.Shares.{shares_of, shares-fewer, left-set, shorter-set, bag-take, leasts-length, leasts-set, winner_share, winner_least, no_winner}
use Rattle.ppq_heap.proofs.heaps.Heaps.pop.Given as given
use Rattle.ppq_heap.proofs.heaps.Heaps.pop.Goals as goal

there : (g : given.Over) (c : goal.After-put g) → c.in-Some.won.0 < length c.self.inside.heaps.items
there g c = omega (arith, c.in-Some.ensures.leaf, leasts-length g.R.Ord.cmp c.self.inside.heaps.items c.self.inside.tree.items c.self.invariant.1)

-- the winner leaves its heap
taken : (g : given.Over) (c : goal.After-put g) → IsSameBag c.index_mut.result.now.items (c.in-Some.won.1 ∷ c.take_least-next.new.heap.items)
taken g c =
    let laws = c.record_laws.ensures in
    let old = c.index_mut.result.now in
    let won = c.in-Some.won in
    c.take_least-next.ensures.taken won.1
    (ap (λ h. least g.R.Ord.cmp h.items) c.index_mut.ensures.value
    ∙ winner_share g.R.Ord.cmp (ranks laws.order) (no_tie laws.order laws.same) c.self.inside.heaps.items c.self.inside.tree.items won.0 won.1 old c.self.invariant.1 c.in-Some.ensures.leaf c.in-Some.ensures.some)

fewer : (g : given.Over) (c : goal.After-put g) → length c.take_least-next.new.heap.items ≤ length c.index_mut.result.now.items
fewer g c =
    let one : length c.index_mut.result.now.items ≡ suc (length c.take_least-next.new.heap.items) = IsSameBag-length c.index_mut.result.now.items (c.in-Some.won.1 ∷ c.take_least-next.new.heap.items) (taken g c) in
    omega arith

value : (g : given.Over) (c : goal.After-put g) → Some c.in-Some.won.1 ≡ least g.R.Ord.cmp (items_of c.args.self.now)
value g c =
    let laws = c.record_laws.ensures in
    let won = c.in-Some.won in
    winner_least g.R.Ord.cmp (ranks laws.order) (no_tie laws.order laws.same) c.self.inside.heaps.items c.self.inside.tree.items won.0 won.1 c.self.invariant.1 c.in-Some.ensures.leaf c.in-Some.ensures.some
    ∙ ap (λ s. least g.R.Ord.cmp (items_of s)) c.self.view_is

pub returns-in_default-clause-value : goal.returns-in_default-clause-value
returns-in_default-clause-value g c =
    let laws = c.record_laws.ensures in
    let empty = no_winner g.R.Ord.cmp (ranks laws.order) (no_tie laws.order laws.same) c.self.inside.heaps.items c.self.inside.tree.items c.self.invariant.1 (c.in_default.ensures.none.0 refl) in
    least_of_none (is_before g.R.Ord.cmp) (items_of c.args.self.now) (ap items_of (sym c.self.view_is) ∙ empty)

pub returns-in_default-clause-none : goal.returns-in_default-clause-none
returns-in_default-clause-none g c =
    let laws = c.record_laws.ensures in
    let empty = no_winner g.R.Ord.cmp (ranks laws.order) (no_tie laws.order laws.same) c.self.inside.heaps.items c.self.inside.tree.items c.self.invariant.1 (c.in_default.ensures.none.0 refl) in
    (λ _. ap items_of (sym c.self.view_is) ∙ empty, λ _. refl)

pub index_mut-requires : goal.index_mut-requires
index_mut-requires g c =
    omega (arith, c.in-Some.ensures.leaf, leasts-length g.R.Ord.cmp c.self.inside.heaps.items c.self.inside.tree.items c.self.invariant.1, c.self.inside.heaps.ok)

pub invariant_of-self : goal.invariant_of-self
invariant_of-self g c =
    let heaps = c.self.inside.heaps.items in
    let new = c.take_least-next.new.heap in
    let leaf = c.in-Some.won.0 in
    let cmp = g.R.Ord.cmp in (
      shares-fewer heaps leaf c.index_mut.result.now new (there g c) c.self.invariant.0 c.index_mut.ensures.value (fewer g c) c.take_least-next.ensures.cap,
      subst (HasLeasts cmp (slice_set heaps leaf new)) (sym c.put.ensures.items) (leasts-set cmp heaps c.self.inside.tree.items leaf new c.take_least-next.result c.self.invariant.1 c.take_least-next.ensures.next),
    )

pub returns-clause-value : goal.returns-clause-value
returns-clause-value g c = value g c

pub returns-clause-taken : goal.returns-clause-taken
returns-clause-taken g c =
    subst (λ s. IsSameBag (items_of s) (c.in-Some.won.1 ∷ items_of (shares_of (slice_set c.self.inside.heaps.items c.in-Some.won.0 c.take_least-next.new.heap)))) c.self.view_is
    (bag-take c.self.inside.heaps.items c.in-Some.won.0 c.index_mut.result.now c.take_least-next.new.heap c.in-Some.won.1 (there g c) c.index_mut.ensures.value (taken g c))

pub returns-clause-left : goal.returns-clause-left
returns-clause-left g c =
    let heaps = c.self.inside.heaps.items in
    let leaf = c.in-Some.won.0 in (
      leaf,
      subst (λ s. Left leaf s c.in-Some.won.1 (shares_of (slice_set heaps leaf c.take_least-next.new.heap))) c.self.view_is
          (left-set heaps leaf c.index_mut.result.now c.take_least-next.new.heap c.in-Some.won.1 (there g c) c.self.invariant.0 c.index_mut.ensures.value (taken g c) c.take_least-next.ensures.cap),
    )

pub returns-clause-none : goal.returns-clause-none
returns-clause-none g c =
    let some = value g c in
    (λ e. absurd (cc), λ e. let none = least_of_none (is_before g.R.Ord.cmp) (items_of c.args.self.now) e in absurd (cc))

pub returns-clause-shorter : goal.returns-clause-shorter
returns-clause-shorter g c other =
    subst (λ s. length (share_at (shares_of (slice_set c.self.inside.heaps.items c.in-Some.won.0 c.take_least-next.new.heap)) other) ≤ length (share_at s other)) c.self.view_is
    (shorter-set c.self.inside.heaps.items c.in-Some.won.0 c.index_mut.result.now c.take_least-next.new.heap (there g c) c.index_mut.ensures.value (fewer g c) other)
