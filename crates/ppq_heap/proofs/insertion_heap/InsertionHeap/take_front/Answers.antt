use Rattle.std.proofs.Common.{◌≡◌, drop, ap, sym, subst, arith, rules}
use Rattle.std.proofs.lemmas.Grind.{common_steps}
use Rattle.ppq_tree.specs.ppq_record.Order.{is_before, Rising}
use Rattle.ppq_heap.specs.Heap.{IsMinHeap}
use Rattle.ppq_heap.proofs.Heap.{heap_dropped, heap_taken, Rising-drop}
use Rattle.ppq_heap.proofs.insertion_heap.InsertionHeap.take_front.Goals as goal

pub invariant_of-self : goal.invariant_of-self
invariant_of-self g c =
    let lt = is_before g.R.Ord.cmp in
    let i = c.self.invariant in
    let same : c.self.inside.records.items ≡ c.args.self.now.items = ap (λ h. h.items) c.self.view_is in
    let rest : c.truncate.new.self.items ≡ drop c.args.n c.args.self.now.items = grind (arith, common_steps) in
    (search rules, search rules, i.2, search rules, heap_taken lt _ c.truncate.new.self.items (subst (IsMinHeap lt) (sym rest) (heap_dropped lt c.args.n c.args.self.now.items c.requires.ascends)))

pub returns-clause-ascends : goal.returns-clause-ascends
returns-clause-ascends g c =
    let lt = is_before g.R.Ord.cmp in
    let same : c.self.inside.records.items ≡ c.args.self.now.items = ap (λ h. h.items) c.self.view_is in
    let rest : c.truncate.new.self.items ≡ drop c.args.n c.args.self.now.items = grind (arith, common_steps) in
    subst (Rising lt) (sym rest) (Rising-drop lt c.args.n c.args.self.now.items c.requires.ascends)
