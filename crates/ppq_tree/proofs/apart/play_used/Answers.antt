use Rattle.std.proofs.Common.{◌≡◌, ℕ, ◌+◌, ◌*◌, ◌<◌, ◌++◌, length, sym, subst, ◌∙◌}
use Rattle.ppq_tree.specs.Tree.{winner_at, IsMinTree}
use Rattle.ppq_tree.specs.Used.{used}
use Rattle.ppq_tree.proofs.Used.{used_is, used-append}
use Rattle.ppq_tree.proofs.apart.play_used.Goals as goal

pub play_all-requires-clause-size : goal.play_all-requires-clause-size
play_all-requires-clause-size g c =
    let winners = c.split_at_mut-front.ensures.back ∙ used_is c.args.winners.now in
    subst (λ v. length v ≡ 2 * length c.used.result.now) (sym winners)
    (subst (λ v. length (used c.args.winners.now) ≡ 2 * length v) (sym c.used.ensures) c.requires.size)

pub play_all-requires-clause-leaves : goal.play_all-requires-clause-leaves
play_all-requires-clause-leaves g c =
    let winners = c.split_at_mut-front.ensures.back ∙ used_is c.args.winners.now in
    subst (λ v. (leaf : ℕ) → leaf < length v → winner_at c.split_at_mut-front.result.1.now (length v + leaf) ≡ leaf) (sym c.used.ensures)
    (subst (λ v. (leaf : ℕ) → leaf < length (used c.args.items.now) → winner_at v (length (used c.args.items.now) + leaf) ≡ leaf) (sym winners) c.requires.leaves)

pub returns-clause-tree : goal.returns-clause-tree
returns-clause-tree g c =
    let winners = used-append c.split_at_mut-front.result.0.now c.play_all.new.winners c.split_at_mut-front.ensures.front_len in
    subst (λ v. IsMinTree g.R.Ord.cmp v (used (c.split_at_mut-front.result.0.now ++ c.play_all.new.winners))) c.used.ensures
    (subst (λ v. IsMinTree g.R.Ord.cmp c.used.result.now v) (sym winners) c.play_all.ensures.tree)
