use Rattle.std.proofs.Common.{◌≡◌, ◌<◌, length, None, slice_set, sym, ap, subst, arith}
use Rattle.std.specs.Prelude.{count_by}
use Rattle.ppq_tree.specs.ppq_record.Order.{is_before}
use Rattle.ppq_tree.proofs.ppq_record.Order.{count_by-append}
use Rattle.ppq_heap.specs.Heaps.{empty_heap, items_in, share_at, items_of, HasLeasts}
use Rattle.ppq_heap.proofs.Heap.{least_of_none}
use Rattle.ppq_heap.proofs.Shares.{counts-set, shares-fewer, leasts-length, leasts-set}
use Rattle.ppq_heap.proofs.heaps.Heaps.clear_share.Given as given
use Rattle.ppq_heap.proofs.heaps.Heaps.clear_share.Goals as goal

there : (g : given.Over) (c : goal.After-put g) → c.args.place < length c.self.inside.heaps.items
there g c = omega (arith, c.requires, ap (λ s. length s.heaps) c.self.view_is)

pub put-requires : goal.put-requires
put-requires g c = omega (arith, c.requires, ap (λ s. length s.heaps) c.self.view_is, leasts-length g.R.Ord.cmp c.self.inside.heaps.items c.self.inside.tree.items c.self.invariant.1)

pub invariant_of-self : goal.invariant_of-self
invariant_of-self g c =
    let heaps = c.self.inside.heaps.items in
    let new = c.clear.new.self in
    let cmp = g.R.Ord.cmp in
    let none : length new.items ≡ 0 = ap length c.clear.ensures.items in (
      shares-fewer heaps c.args.place c.index_mut.result.now new (there g c) c.self.invariant.0 c.index_mut.ensures.value (omega arith) c.clear.ensures.cap,
      subst (HasLeasts cmp (slice_set heaps c.args.place new)) (sym c.put.ensures.items)
          (leasts-set cmp heaps c.self.inside.tree.items c.args.place new None c.self.invariant.1 (least_of_none (is_before cmp) new.items c.clear.ensures.items)),
    )

pub returns-clause-bag : goal.returns-clause-bag
returns-clause-bag g c p =
    let heaps = c.self.inside.heaps.items in
    let new = c.clear.new.self in
    let swapped = counts-set p heaps c.args.place new (empty_heap 0) (there g c) in
    let none : count_by p new.items ≡ 0 = ap (count_by p) c.clear.ensures.items in
    let all : count_by p (items_in heaps) ≡ count_by p (items_of c.args.self.now) = ap (λ s. count_by p (items_of s)) c.self.view_is in
    let share : count_by p (share_at (record { heaps = heaps; cap = 0 }) c.args.place) ≡ count_by p (share_at c.args.self.now c.args.place) = ap (λ s. count_by p (share_at s c.args.place)) c.self.view_is in
    omega (arith, swapped, none, all, share, count_by-append p (share_at c.args.self.now c.args.place) (items_in (slice_set heaps c.args.place new)))
