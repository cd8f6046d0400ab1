use Rattle.std.proofs.Common.{Some, None, ◌∷◌, ◌++◌, [], refl, ap, sym, subst, ◌∙◌}
use Rattle.ppq_heap.specs.Heaps.{items_of}
use Rattle.ppq_queue.specs.Bulk as spec
use Rattle.ppq_queue.specs.Bulk.{Merged}
use Rattle.ppq_queue.proofs.Ready.{popped_fewer}
use Rattle.ppq_queue.proofs.Merging.{moves-none, moves-one, kept_by, first_by, heap_moved, extract_moved, heap_ended, extract_ended}
use Rattle.ppq_queue.proofs.Stores.{heaps-same}
use Rattle.ppq_queue.proofs.bulk.move_next.Goals as goal

pub returns-in_default : goal.returns-in_default
returns-in_default g c =
    let laws = c.record_laws.ensures in
    let cmp = g.R.Ord.cmp in
    let one = c.min-latest.result in
    let limit = c.args.limit in
    let e = c.args.extract.now.items in
    let first = first_by cmp e one c.front-stored.result c.goes_first.result _ c.front-stored.ensures c.goes_first.ensures c.if-goes_first.true in
    let kept = kept_by cmp limit one c.keep_below.result None c.keep_below.ensures c.in_default.is in
    moves-none (heap_ended laws.order laws.same c.args.more limit limit (items_of c.args.heaps.now) e one c.min-latest.ensures.value first kept c.requires.whole)

pub returns-then-goes_first : goal.returns-then-goes_first
returns-then-goes_first g c =
    let laws = c.record_laws.ensures in
    let cmp = g.R.Ord.cmp in
    let one = c.min-latest.result in
    let limit = c.args.limit in
    let h = items_of c.args.heaps.now in
    let h' = items_of c.pop.new.self in
    let e = c.args.extract.now.items in
    let out = c.args.out.now.items in
    let next = c.in-Some.next in
    let pop = c.pop.ensures in
    let first = first_by cmp e one c.front-stored.result c.goes_first.result _ c.front-stored.ensures c.goes_first.ensures c.if-goes_first.true in
    let kept = kept_by cmp limit one c.keep_below.result (Some next) c.keep_below.ensures c.in-Some.is in
    let moved = heap_moved laws.order laws.same c.args.more limit h h' e out one c.pop.result next c.min-latest.ensures.value pop.value pop.taken first kept c.requires.whole in
    moves-one c.args.out.now next c.push.ensures moved (record { count = pop.count; cap = pop.cap; fewer = popped_fewer h h' c.pop.result (λ none. ap items_of (pop.same none)) pop.taken }) refl

pub returns-in_default-keep_below : goal.returns-in_default-keep_below
returns-in_default-keep_below g c =
    let laws = c.record_laws.ensures in
    let cmp = g.R.Ord.cmp in
    let one = c.min-latest.result in
    let limit = c.args.limit in
    let e = c.args.extract.now.items in
    let first = first_by cmp e one c.front-stored.result c.goes_first.result _ c.front-stored.ensures c.goes_first.ensures c.if-goes_first.false in
    let kept = sym (ap (λ x. spec.kept_below cmp x limit) c.front-stored.ensures) ∙ kept_by cmp limit c.front-stored.result c.keep_below-2.result None c.keep_below-2.ensures c.in_default-keep_below.is in
    moves-none (extract_ended laws.order laws.same c.args.more limit limit (items_of c.args.heaps.now) e one c.min-latest.ensures.value first kept c.requires.whole)

pub returns : goal.returns
returns g c =
    let laws = c.record_laws.ensures in
    let cmp = g.R.Ord.cmp in
    let one = c.min-latest.result in
    let limit = c.args.limit in
    let h = items_of c.args.heaps.now in
    let e = c.args.extract.now.items in
    let out = c.args.out.now.items in
    let next = c.in-Some-keep_below.next in
    let first = first_by cmp e one c.front-stored.result c.goes_first.result _ c.front-stored.ensures c.goes_first.ensures c.if-goes_first.false in
    let kept = sym (ap (λ x. spec.kept_below cmp x limit) c.front-stored.ensures) ∙ kept_by cmp limit c.front-stored.result c.keep_below-2.result (Some next) c.keep_below-2.ensures c.in-Some-keep_below.is in
    let moved = extract_moved laws.order laws.same c.args.more limit h e out one next c.min-latest.ensures.value first kept in
    let there = subst (λ l. Merged cmp c.args.more limit h h e l out (out ++ next ∷ [])) (sym (ap (λ x. x.items) c.pop-2.ensures.rest)) moved in
    moves-one c.args.out.now next c.push-2.ensures there heaps-same (ap (λ v. v.room) c.pop-2.ensures.rest)
