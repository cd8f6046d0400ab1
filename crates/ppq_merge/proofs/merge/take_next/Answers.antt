use Rattle.std.proofs.Common.{◌≡◌, ◌+◌, ◌<◌, length, get_or, set, refl, ap₂, ◌∙◌, arith}
use Rattle.std.proofs.lemmas.List.{length-set}
use Rattle.ppq_split.specs.ppq_record.Order.{is_before}
use Rattle.ppq_split.proofs.ppq_record.Fronts.{ranks}
use Rattle.ppq_merge.specs.Heads.{heads, IsNext, LeadsToCut}
use Rattle.ppq_merge.specs.Parts.{between}
use Rattle.ppq_merge.proofs.Heads.{heads-length, head_in, head_of_tree, tree_at_head, taken, nothing_left, left_least}
use Rattle.ppq_merge.proofs.Merging.{cut_next}
use Rattle.ppq_merge.proofs.merge.take_next.Goals as goal

pub unreachable-requires : goal.unreachable-requires
unreachable-requires g c =
    let fs = c.args.from.now in let ts = c.args.to.now in let qs = g.Q.Listing.lists c.args.runs.now in
    let none = nothing_left fs ts qs c.requires.parts (λ j x h. c.in_default.ensures.none.0 refl j x (tree_at_head _ fs ts qs j x c.requires.heads h)) in
    let some = c.requires.some in
    omega arith

pub bounds-from-best : goal.bounds-from-best
bounds-from-best g c =
    let best = c.in-Some.best in
    let fs = c.args.from.now in let ts = c.args.to.now in let qs = g.Q.Listing.lists c.args.runs.now in
    (head_in fs ts qs best.0 best.1 c.requires.parts (head_of_tree _ fs ts qs best.0 best.1 c.requires.heads c.in-Some.ensures.some.there)).0

pub overflow_add-from : goal.overflow_add-from
overflow_add-from g c =
    let best = c.in-Some.best in
    let fs = c.args.from.now in let ts = c.args.to.now in let qs = g.Q.Listing.lists c.args.runs.now in
    let inside = head_in fs ts qs best.0 best.1 c.requires.parts (head_of_tree _ fs ts qs best.0 best.1 c.requires.heads c.in-Some.ensures.some.there) in
    let small = c.type_inv.to best.0 in
    omega (arith, inside.1, small)

pub bounds-from-best-2 : goal.bounds-from-best-2
bounds-from-best-2 g c =
    let best = c.in-Some.best in
    let fs = c.args.from.now in let ts = c.args.to.now in let qs = g.Q.Listing.lists c.args.runs.now in
    (head_in fs ts qs best.0 best.1 c.requires.parts (head_of_tree _ fs ts qs best.0 best.1 c.requires.heads c.in-Some.ensures.some.there)).0

pub invariant_of-fronts : goal.invariant_of-fronts
invariant_of-fronts g c =
    let best = c.in-Some.best in
    let fs = c.args.from.now in let ts = c.args.to.now in let qs = g.Q.Listing.lists c.args.runs.now in
    let next = head_of_tree _ fs ts qs best.0 best.1 c.requires.heads c.in-Some.ensures.some.there in
    record { parts = (taken fs ts qs best.0 best.1 c.requires.parts next).1 }

pub head-next-requires : goal.head-next-requires
head-next-requires g c =
    let best = c.in-Some.best in
    let fs = c.args.from.now in let ts = c.args.to.now in let qs = g.Q.Listing.lists c.args.runs.now in
    let gs = set fs best.0 (get_or fs best.0 0 + 1) in
    let next = head_of_tree _ fs ts qs best.0 best.1 c.requires.heads c.in-Some.ensures.some.there in
    let there : best.0 < length (heads gs ts qs) =
    omega (arith, (head_in fs ts qs best.0 best.1 c.requires.parts next).0, heads-length gs ts qs (taken fs ts qs best.0 best.1 c.requires.parts next).1, length-set fs best.0 (get_or fs best.0 0 + 1)) in
    there

pub returns-clause-parts : goal.returns-clause-parts
returns-clause-parts g c =
    let best = c.in-Some.best in
    let fs = c.args.from.now in let ts = c.args.to.now in let qs = g.Q.Listing.lists c.args.runs.now in
    (taken fs ts qs best.0 best.1 c.requires.parts (head_of_tree _ fs ts qs best.0 best.1 c.requires.heads c.in-Some.ensures.some.there)).1

pub returns-clause-heads : goal.returns-clause-heads
returns-clause-heads g c =
    let best = c.in-Some.best in
    let fs = c.args.from.now in let ts = c.args.to.now in let qs = g.Q.Listing.lists c.args.runs.now in
    let gs = set fs best.0 (get_or fs best.0 0 + 1) in
    let next = head_of_tree _ fs ts qs best.0 best.1 c.requires.heads c.in-Some.ensures.some.there in
    let shown : c.put.new.self.items ≡ heads gs ts qs =
    c.put.ensures.items
    ∙ (ap₂ (λ hs n. set hs best.0 n) c.requires.heads c.head-next.ensures ∙ (taken fs ts qs best.0 best.1 c.requires.parts next).3) in
    shown

pub returns-clause-less : goal.returns-clause-less
returns-clause-less g c =
    let best = c.in-Some.best in
    let fs = c.args.from.now in let ts = c.args.to.now in let qs = g.Q.Listing.lists c.args.runs.now in
    (taken fs ts qs best.0 best.1 c.requires.parts (head_of_tree _ fs ts qs best.0 best.1 c.requires.heads c.in-Some.ensures.some.there)).2

pub returns-clause-next : goal.returns-clause-next
returns-clause-next g c =
    let best = c.in-Some.best in
    let fs = c.args.from.now in let ts = c.args.to.now in let qs = g.Q.Listing.lists c.args.runs.now in
    let lt = is_before g.R.Ord.cmp in
    let it = c.in-Some.ensures.some in
    let next = head_of_tree _ fs ts qs best.0 best.1 c.requires.heads it.there in
    let n : IsNext lt qs best.1 (between fs ts qs) (between (set fs best.0 (get_or fs best.0 0 + 1)) ts qs) = record {
      bag = (taken fs ts qs best.0 best.1 c.requires.parts next).0;
      least = λ up. left_least lt (ranks c.record_laws.ensures.order) best.1 fs ts qs up (λ j y e. it.least j y (tree_at_head _ fs ts qs j y c.requires.heads e));
    } in
    n

pub returns-clause-cut : goal.returns-clause-cut
returns-clause-cut g c =
    let best = c.in-Some.best in
    let fs = c.args.from.now in let ts = c.args.to.now in let qs = g.Q.Listing.lists c.args.runs.now in
    let lt = is_before g.R.Ord.cmp in
    let it = c.in-Some.ensures.some in
    let cut : LeadsToCut lt qs ts fs (set fs best.0 (get_or fs best.0 0 + 1)) =
    cut_next lt (ranks c.record_laws.ensures.order) fs ts qs best.0 best.1 c.requires.parts (head_of_tree _ fs ts qs best.0 best.1 c.requires.heads it.there)
    (λ j y e. it.least j y (tree_at_head _ fs ts qs j y c.requires.heads e)) (λ j y e. it.lowest j y (tree_at_head _ fs ts qs j y c.requires.heads e)) in
    cut
