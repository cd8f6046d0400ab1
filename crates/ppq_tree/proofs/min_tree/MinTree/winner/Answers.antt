use Rattle.std.proofs.Common.{◌<◌, length, refl, ap, subst, ◌∙◌, arith, rules}
use Rattle.ppq_tree.specs.Tree.{Leaves, winner_at}
use Rattle.ppq_tree.specs.Used.{used}
use Rattle.ppq_tree.proofs.Tree.{root_within}
use Rattle.ppq_tree.proofs.Order.{least_read, none_read}
use Rattle.ppq_tree.proofs.Used.{tree_read}
use Rattle.ppq_tree.proofs.min_tree.MinTree.winner.Goals as goal

pub offset_bounds-items-leaf : goal.offset_bounds-items-leaf
offset_bounds-items-leaf g c =
    let i = c.self.inside in
    let items = c.used-items.ensures ∙ ap used c.as_slice.ensures.value in
    let winners = c.used-winners.ensures ∙ ap used c.as_slice-2.ensures.value in
    let tree = tree_read g.R.Ord.cmp c.used-items.result.now (used i.items.items) c.used-winners.result.now (used i.winners.items) items winners c.self.invariant.6 in
    let some : 0 < length c.used-items.result.now = search rules in
    let within = root_within g.R.Ord.cmp c.used-items.result.now c.used-winners.result.now some tree in
    omega (arith, within)

pub bounds-items-leaf : goal.bounds-items-leaf
bounds-items-leaf g c =
    let i = c.self.inside in
    let items = c.used-items.ensures ∙ ap used c.as_slice.ensures.value in
    let winners = c.used-winners.ensures ∙ ap used c.as_slice-2.ensures.value in
    let tree = tree_read g.R.Ord.cmp c.used-items.result.now (used i.items.items) c.used-winners.result.now (used i.winners.items) items winners c.self.invariant.6 in
    let some : 0 < length c.used-items.result.now = search rules in
    root_within g.R.Ord.cmp c.used-items.result.now c.used-winners.result.now some tree

pub returns-in-Some-clause-some : goal.returns-in-Some-clause-some
returns-in-Some-clause-some g c =
    let i = c.self.inside in
    let items = c.used-items.ensures ∙ ap used c.as_slice.ensures.value in
    let winners = c.used-winners.ensures ∙ ap used c.as_slice-2.ensures.value in
    let tree = tree_read g.R.Ord.cmp c.used-items.result.now (used i.items.items) c.used-winners.result.now (used i.winners.items) items winners c.self.invariant.6 in
    let some : 0 < length c.used-items.result.now = search rules in
    let shown = items ∙ ap (λ (v : Leaves g.row.R.Denot). v.items) c.self.view_is in
    least_read g.R.Ord.cmp c.record_laws.ensures.order c.used-items.result.now c.used-winners.result.now tree c.args.self.now.items c.index-items-leaf.result shown some c.index-items-leaf.is c.in-Some.item c.in-Some.is

pub returns-in-Some-clause-leaf : goal.returns-in-Some-clause-leaf
returns-in-Some-clause-leaf g c =
    let i = c.self.inside in
    let items = c.used-items.ensures ∙ ap used c.as_slice.ensures.value in
    let winners = c.used-winners.ensures ∙ ap used c.as_slice-2.ensures.value in
    let tree = tree_read g.R.Ord.cmp c.used-items.result.now (used i.items.items) c.used-winners.result.now (used i.winners.items) items winners c.self.invariant.6 in
    let some : 0 < length c.used-items.result.now = search rules in
    let shown = items ∙ ap (λ (v : Leaves g.row.R.Denot). v.items) c.self.view_is in
    subst (λ xs. winner_at c.used-winners.result.now 1 < length xs) shown (root_within g.R.Ord.cmp c.used-items.result.now c.used-winners.result.now some tree)

pub returns-in-Some-clause-none : goal.returns-in-Some-clause-none
returns-in-Some-clause-none g c =
    let i = c.self.inside in
    let items = c.used-items.ensures ∙ ap used c.as_slice.ensures.value in
    let winners = c.used-winners.ensures ∙ ap used c.as_slice-2.ensures.value in
    let tree = tree_read g.R.Ord.cmp c.used-items.result.now (used i.items.items) c.used-winners.result.now (used i.winners.items) items winners c.self.invariant.6 in
    let some : 0 < length c.used-items.result.now = search rules in
    let shown = items ∙ ap (λ (v : Leaves g.row.R.Denot). v.items) c.self.view_is in
    let least = least_read g.R.Ord.cmp c.record_laws.ensures.order c.used-items.result.now c.used-winners.result.now tree c.args.self.now.items c.index-items-leaf.result shown some c.index-items-leaf.is c.in-Some.item c.in-Some.is in
    ((λ e. cc), (λ none. absurd (none (winner_at c.used-winners.result.now 1) c.in-Some.item least.there)))

pub returns-in-None-clause-none : goal.returns-in-None-clause-none
returns-in-None-clause-none g c =
    let i = c.self.inside in
    let items = c.used-items.ensures ∙ ap used c.as_slice.ensures.value in
    let winners = c.used-winners.ensures ∙ ap used c.as_slice-2.ensures.value in
    let tree = tree_read g.R.Ord.cmp c.used-items.result.now (used i.items.items) c.used-winners.result.now (used i.winners.items) items winners c.self.invariant.6 in
    let some : 0 < length c.used-items.result.now = search rules in
    let shown = items ∙ ap (λ (v : Leaves g.row.R.Denot). v.items) c.self.view_is in
    ((λ e. none_read g.R.Ord.cmp c.record_laws.ensures.order c.used-items.result.now c.used-winners.result.now tree c.args.self.now.items c.index-items-leaf.result shown some c.index-items-leaf.is c.in-None.is), (λ none. refl))
