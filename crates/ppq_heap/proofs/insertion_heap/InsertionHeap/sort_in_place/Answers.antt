use Rattle.std.proofs.Common.{◌≡◌, ◌++◌, take, drop, length, sym, subst, ◌∙◌, rules}
use Rattle.std.proofs.lemmas.List.{take_at, take_all}
use Rattle.ppq_tree.specs.ppq_record.Order.{is_before, Rising}
use Rattle.ppq_tree.proofs.ppq_record.Order.{Rising-in_order}
use Rattle.ppq_tree.proofs.ppq_record.Fronts.{ranks}
use Rattle.ppq_heap.specs.Heap.{IsMinHeap}
use Rattle.ppq_heap.proofs.Heap.{heap_rising}
use Rattle.ppq_heap.proofs.insertion_heap.InsertionHeap.sort_in_place.Goals as goal

pub invariant_of-self : goal.invariant_of-self
invariant_of-self g c =
    let lt = is_before g.R.Ord.cmp in
    let i = c.self.invariant in
    let sorted = c.sort.new.records in
    let long : length sorted ≡ c.self.inside.records.len = search rules in
    let whole : take c.self.inside.records.len (sorted ++ drop (length sorted) c.self.inside.records.items) ≡ sorted = take_at sorted _ _ long in
    let now = take c.self.inside.records.len (sorted ++ drop (length sorted) c.self.inside.records.items) in
    let all : take c.len.result now ≡ now = take_all c.len.result now (search rules) in
    (i.0, i.1, i.2, search rules, subst (IsMinHeap lt) (sym (all ∙ whole ∙ c.sort.ensures)) (heap_rising lt _ (Rising-in_order lt (ranks c.record_laws.ensures.order) c.as_mut_slice.result.now)))

pub returns-clause-ascends : goal.returns-clause-ascends
returns-clause-ascends g c =
    let lt = is_before g.R.Ord.cmp in
    let sorted = c.sort.new.records in
    let long : length sorted ≡ c.self.inside.records.len = search rules in
    let whole : take c.self.inside.records.len (sorted ++ drop (length sorted) c.self.inside.records.items) ≡ sorted = take_at sorted _ _ long in
    subst (Rising lt) (sym (whole ∙ c.sort.ensures)) (Rising-in_order lt (ranks c.record_laws.ensures.order) c.as_mut_slice.result.now)
