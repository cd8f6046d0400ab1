use Rattle.std.proofs.Common.{◌≡◌, ◌<◌, ◌≤◌, ◌++◌, ◌∷◌, [], length, take, Some, refl, ap, sym, subst, ◌∙◌, rules}
use Rattle.std.specs.Prelude.{slice_get}
use Rattle.ppq_tree.specs.ppq_record.Order.{is_before}
use Rattle.ppq_tree.specs.ppq_record.Bag.{least}
use Rattle.ppq_tree.proofs.ppq_record.Fronts.{ranks, no_tie}
use Rattle.ppq_heap.specs.Heap.{IsMinHeap}
use Rattle.ppq_heap.proofs.Heap.{heap_of_few, heap_without_last, first_is_least, least_of_one, least_of_none, none-same_bag, some-same_bag, least-same_bag}
use Rattle.ppq_heap.proofs.insertion_heap.InsertionHeap.pop.Goals as goal

pub returns-in_default-clause-value : goal.returns-in_default-clause-value
returns-in_default-clause-value g c =
    let none : c.restore.new.self.items ≡ [] = search rules in
    least_of_none (is_before g.R.Ord.cmp) c.args.self.now.items (none-same_bag c.restore.new.self.items c.args.self.now.items c.restore.ensures.bag none)

pub returns-in_default-clause-none : goal.returns-in_default-clause-none
returns-in_default-clause-none g c =
    let none : c.restore.new.self.items ≡ [] = search rules in
    (λ _. none-same_bag c.restore.new.self.items c.args.self.now.items c.restore.ensures.bag none, λ _. refl)

pub invariant_of-self-then-is_empty : goal.invariant_of-self-then-is_empty
invariant_of-self-then-is_empty g c =
    let i = c.self.invariant in
    let none : length (take c.len.result c.pop.new.self.items) ≤ 1 = search rules in
    (search rules, search rules, i.2, search rules, heap_of_few (is_before g.R.Ord.cmp) (take c.len.result c.pop.new.self.items) none)

pub returns-then-is_empty-clause-value : goal.returns-then-is_empty-clause-value
returns-then-is_empty-clause-value g c =
    let laws = c.record_laws.ensures in
    let same : c.self.inside.records.items ≡ c.restore.new.self.items = ap (λ h. h.items) c.self.view_is in
    let rest : c.pop.new.self.items ≡ [] = search rules in
    let whole = sym same ∙ c.in-Some.ensures.items ∙ ap (λ xs. xs ++ c.in-Some.last ∷ []) rest in
    least_of_one (is_before g.R.Ord.cmp) c.in-Some.last c.restore.new.self.items whole
    ∙ least-same_bag c.restore.new.self.items c.args.self.now.items c.restore.ensures.bag laws.order laws.same

pub returns-then-is_empty-clause-none : goal.returns-then-is_empty-clause-none
returns-then-is_empty-clause-none g c =
    let some : 0 < length c.restore.new.self.items = search rules in
    (λ e. absurd (cc), λ e. absurd (some-same_bag c.restore.new.self.items c.args.self.now.items c.restore.ensures.bag some e))

pub replace_root-requires-clause-heap : goal.replace_root-requires-clause-heap
replace_root-requires-clause-heap g c =
    let lt = is_before g.R.Ord.cmp in
    let same : c.self.inside.records.items ≡ c.restore.new.self.items = ap (λ h. h.items) c.self.view_is in
    subst (IsMinHeap lt) (sym c.as_mut_slice.ensures.value)
    (heap_without_last lt c.pop.new.self.items (c.in-Some.last ∷ []) (subst (IsMinHeap lt) (sym same ∙ c.in-Some.ensures.items) c.restore.ensures.heap))

pub returns-clause-value : goal.returns-clause-value
returns-clause-value g c =
    let laws = c.record_laws.ensures in
    let lt = is_before g.R.Ord.cmp in
    let same : c.self.inside.records.items ≡ c.restore.new.self.items = ap (λ h. h.items) c.self.view_is in
    let split = sym same ∙ c.in-Some.ensures.items in
    let root : slice_get c.pop.new.self.items 0 ≡ Some c.replace_root.result = ap (λ xs. slice_get xs 0) (sym c.as_mut_slice.ensures.value) ∙ c.replace_root.ensures.root in
    first_is_least lt (ranks laws.order) (no_tie laws.order laws.same) c.pop.new.self.items (c.in-Some.last ∷ []) c.replace_root.result (subst (IsMinHeap lt) split c.restore.ensures.heap) root
    ∙ ap (least g.R.Ord.cmp) (sym split)
    ∙ least-same_bag c.restore.new.self.items c.args.self.now.items c.restore.ensures.bag laws.order laws.same

pub returns-clause-none : goal.returns-clause-none
returns-clause-none g c =
    let some : 0 < length c.restore.new.self.items = search rules in
    (λ e. absurd (cc), λ e. absurd (some-same_bag c.restore.new.self.items c.args.self.now.items c.restore.ensures.bag some e))
