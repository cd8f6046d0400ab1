use Rattle.std.proofs.Common.{◌≡◌, ◌<◌, ◌∷◌, [], ◌++◌, length, take, None, sym, ap, ◌∙◌, arith}
use Rattle.std.proofs.lemmas.List.{length-append, length-take-le, take_more}
use Rattle.ppq_tree.specs.Used.{used}
use Rattle.ppq_tree.proofs.Used.{used_none, used-push}
use Rattle.ppq_tree.proofs.min_tree.write_heads.Goals as goal

pub loop-leaf-init : goal.loop-leaf-init
loop-leaf-init g c =
    let size : length c.truncate.new.self.items ≡ 32 = ap length c.truncate.ensures.items ∙ length-take-le 32 c.args.items.now.items c.requires.apart in
    record { items = used_none c.truncate.new.self.items (omega arith); size = size; capacity = c.truncate.ensures.capacity }

pub loop-leaf-preserved : goal.loop-leaf-preserved
loop-leaf-preserved g c =
    let i = c.loop-leaf.invariant in
    let heads = g.H.Heads.heads c.args.heads.now in
    let leaf = c.loop-leaf.leaf in
    let there : leaf < length heads = omega (arith, c.loop-leaf-test.true, c.leaves-leaf-end.ensures) in
    let size = i.size in
    let long = ap length c.push_reserved.ensures.items ∙ length-append c.loop-leaf.items.items (c.head.result ∷ []) in
    record {
      items =
          ap used c.push_reserved.ensures.items
          ∙ (used-push c.loop-leaf.items.items c.head.result (omega arith)
          ∙ (ap (λ v. v ++ c.head.result ∷ []) i.items
          ∙ (ap (λ v. take leaf heads ++ v ∷ []) c.head.ensures ∙ sym (take_more heads leaf None there))));
      size = omega arith;
      capacity = c.push_reserved.ensures.capacity ∙ i.capacity;
    }
