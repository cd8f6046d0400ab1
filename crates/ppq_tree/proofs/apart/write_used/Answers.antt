use Rattle.std.proofs.Common.{◌+◌, ◌<◌, ◌++◌, length, sym, ap, subst, ◌∙◌}
use Rattle.std.specs.Prelude.{slice_set}
use Rattle.ppq_tree.specs.Levels.{leaf_level}
use Rattle.ppq_tree.specs.Tree.{IsMinTree}
use Rattle.ppq_tree.specs.Used.{used}
use Rattle.ppq_tree.proofs.Used.{used_is, used-append}
use Rattle.ppq_tree.proofs.apart.write_used.Goals as goal

pub write_leaf-requires-clause-leaf : goal.write_leaf-requires-clause-leaf
write_leaf-requires-clause-leaf g c =
    let items = c.split_at_mut-front.ensures.back ∙ used_is c.args.items.now in
    subst (λ v. c.args.leaf < length v) (sym items) c.requires.leaf

pub write_leaf-requires-clause-room : goal.write_leaf-requires-clause-room
write_leaf-requires-clause-room g c =
    let items = c.split_at_mut-front.ensures.back ∙ used_is c.args.items.now in
    subst (λ v. length v < 4294967296) (sym items) c.requires.room

pub write_leaf-requires-clause-tree : goal.write_leaf-requires-clause-tree
write_leaf-requires-clause-tree g c =
    let items = c.split_at_mut-front.ensures.back ∙ used_is c.args.items.now in
    let winners = c.split_at_mut-front-2.ensures.back ∙ used_is c.args.winners.now in
    subst (λ v. IsMinTree g.R.Ord.cmp v c.split_at_mut-front-2.result.1.now) (sym items)
    (subst (λ v. IsMinTree g.R.Ord.cmp (used c.args.items.now) v) (sym winners) c.requires.tree)

pub returns-clause-items : goal.returns-clause-items
returns-clause-items g c =
    let items = c.split_at_mut-front.ensures.back ∙ used_is c.args.items.now in
    used-append c.split_at_mut-front.result.0.now c.write_leaf.new.items c.split_at_mut-front.ensures.front_len
    ∙ (c.write_leaf.ensures.items ∙ ap (λ v. slice_set v c.args.leaf c.args.item) items)

pub returns-clause-tree : goal.returns-clause-tree
returns-clause-tree g c =
    let items = used-append c.split_at_mut-front.result.0.now c.write_leaf.new.items c.split_at_mut-front.ensures.front_len in
    let winners = used-append c.split_at_mut-front-2.result.0.now c.write_leaf.new.winners c.split_at_mut-front-2.ensures.front_len in
    subst (λ v. IsMinTree g.R.Ord.cmp v (used (c.split_at_mut-front-2.result.0.now ++ c.write_leaf.new.winners))) (sym items)
    (subst (λ v. IsMinTree g.R.Ord.cmp c.write_leaf.new.items v) (sym winners) c.write_leaf.ensures.tree)

pub returns-clause-cost : goal.returns-clause-cost
returns-clause-cost g c =
    let items = c.split_at_mut-front.ensures.back ∙ used_is c.args.items.now in
    c.write_leaf.ensures.cost ∙ ap (λ v. c.args.steps.now + leaf_level (length v) c.args.leaf) items
