use Rattle.std.proofs.Common.{◌≡◌, true, false, Some, slice_set, if◌then◌else◌, sym, ap, ◌∙◌, subst, arith}
use Rattle.std.proofs.lemmas.Grind.{common_steps}
use Rattle.ppq_tree.specs.ppq_record.Bag.{least}
use Rattle.ppq_heap.specs.Heaps.{HasLeasts}
use Rattle.ppq_heap.proofs.Shares.{shares-push, leasts-length, leasts-set, leasts-set_same}
use Rattle.ppq_heap.proofs.heaps.Heaps.try_push.Goals as goal

pub put-requires : goal.put-requires
put-requires g c = omega (arith, c.self.invariant.0.some, leasts-length g.R.Ord.cmp c.self.inside.heaps.items c.self.inside.tree.items c.self.invariant.1)

pub invariant_of-self-then-is_least : goal.invariant_of-self-then-is_least
invariant_of-self-then-is_least g c =
    let heaps = c.self.inside.heaps.items in
    let old = c.index_mut.result.now in
    let new = c.push.new.heap in
    let cmp = g.R.Ord.cmp in
    let first : Some c.args.item ≡ least cmp new.items = ap (λ b. if b then Some c.args.item else least cmp old.items) (sym c.if-is_least.true) ∙ sym c.in-Ok.ensures.least in (
      shares-push heaps 0 old new c.args.item c.self.invariant.0.some c.self.invariant.0 c.index_mut.ensures.value c.in-Ok.ensures.added c.in-Ok.ensures.cap
          (λ e. let full : false ≡ true = c.in-Ok.ensures.full.1 e in absurd (cc)),
      subst (HasLeasts cmp (slice_set heaps 0 new)) (sym c.put.ensures.items) (leasts-set cmp heaps c.self.inside.tree.items 0 new (Some c.args.item) c.self.invariant.1 first),
    )

pub invariant_of-self-else-is_least : goal.invariant_of-self-else-is_least
invariant_of-self-else-is_least g c =
    let heaps = c.self.inside.heaps.items in
    let old = c.index_mut.result.now in
    let new = c.push.new.heap in
    let cmp = g.R.Ord.cmp in
    let first : least cmp new.items ≡ least cmp old.items = c.in-Ok.ensures.least ∙ ap (λ b. if b then Some c.args.item else least cmp old.items) c.if-is_least.false in (
      shares-push heaps 0 old new c.args.item c.self.invariant.0.some c.self.invariant.0 c.index_mut.ensures.value c.in-Ok.ensures.added c.in-Ok.ensures.cap
          (λ e. let full : false ≡ true = c.in-Ok.ensures.full.1 e in absurd (cc)),
      leasts-set_same cmp heaps c.self.inside.tree.items 0 new old c.self.invariant.1 (first ∙ ap (λ h. least cmp h.items) c.index_mut.ensures.value),
    )

pub index_mut-requires : goal.index_mut-requires
index_mut-requires g c = omega arith

pub invariant_of-self : goal.invariant_of-self
invariant_of-self g c = grind arith

pub returns-in-Err : goal.returns-in-Err
returns-in-Err g c = grind arith

pub returns-after-is_least : goal.returns-after-is_least
returns-after-is_least g c = grind (arith, common_steps)
