use Rattle.std.proofs.Common.{◌≡◌, ◌+◌, ◌∷◌, [], length, sym, ap, subst, ◌∙◌, arith}
use Rattle.std.proofs.lemmas.List.{length-append}
use Rattle.ppq_tree.specs.Tree.{winner_at}
use Rattle.ppq_tree.specs.Used.{used}
use Rattle.ppq_tree.proofs.Used.{used-length, used-push, leaf_numbered}
use Rattle.ppq_tree.proofs.min_tree.write_numbers.Goals as goal

pub loop-leaf-preserved : goal.loop-leaf-preserved
loop-leaf-preserved c =
    let i = c.loop-leaf.invariant in
    let before = c.loop-leaf.winners.items in
    let size = i.size in
    let push = c.push_reserved-in-loop-leaf in
    let long = ap length push.ensures.items ∙ length-append before (c.loop-leaf.leaf ∷ []) in
    let one = used-length before in
    let more = ap used push.ensures.items ∙ used-push before c.loop-leaf.leaf (omega arith) in
    let own = leaf_numbered (used before) c.args.leaves c.loop-leaf.leaf (omega arith) i.leaves in
    record {
      size = omega arith;
      leaves = λ n h. subst (λ v. winner_at v (c.args.leaves + n) ≡ n) (sym more) (own n h);
      capacity = push.ensures.capacity ∙ i.capacity;
    }

pub returns-clause-size : goal.returns-clause-size
returns-clause-size c =
    let size = c.loop-leaf.invariant.size in
    let stop = c.loop-leaf-test.false in
    let most = c.loop-leaf.auto.leaf-end in
    let one = used-length c.loop-leaf.winners.items in
    omega arith
