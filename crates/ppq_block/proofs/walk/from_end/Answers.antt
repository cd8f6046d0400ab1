use Rattle.std.proofs.Common.{◌≡◌, ◌∷◌, ◌+◌, ◌-◌, ◌<◌, List, Some, reverse, length, sym, ap, ◌∙◌, subst, arith}
use Rattle.std.specs.List.{slice_get}
use Rattle.ppq_block.specs.Block.{Block, all_items}
use Rattle.ppq_block.specs.Chain.{chain_items}
use Rattle.ppq_block.proofs.Lists.{end-here, end-further}
use Rattle.ppq_block.proofs.walk.from_end.Goals as goal

pub returns-then-rest-len-clause-record : goal.returns-then-rest-len-clause-record
returns-then-rest-len-clause-record g c =
    let node = c.in-Link.here.value in
    let b = node.item in
    let bs = chain_items node.next in
    let rest = c.loop-node.rest in
    let items : chain_items c.loop-node.node.now ≡ b ∷ bs = ap chain_items c.in-Link.is in
    let long : c.from-len.result ≡ length b.items = c.from-len.ensures ∙ c.len.ensures.len ∙ ap (λ n. length n.item.items) c.deref.ensures in
    let here : slice_get b.items (length b.items - 1 - rest) ≡ Some c.at.result =
    ap (λ k. slice_get b.items (k - 1 - rest)) (sym long) ∙ sym (ap (λ n. slice_get n.item.items (c.from-len.result - 1 - rest)) c.deref-then-rest-len.ensures) ∙ c.at.ensures.record in
    sym c.loop-node.invariant.1
    ∙ ap (λ (xs : List (Block g.row.R.Denot)). slice_get (all_items (reverse xs)) (length (all_items (reverse xs)) - (rest + 1))) items
    ∙ end-here b bs rest c.at.result (omega (arith, long, c.if-rest-len.true)) here

pub loop-node-preserved : goal.loop-node-preserved
loop-node-preserved g c =
    let node = c.in-Link.here.value in
    let b = node.item in
    let bs = chain_items node.next in
    let rest = c.loop-node.rest in
    let n = c.from-len.result in
    let items : chain_items c.loop-node.node.now ≡ b ∷ bs = ap chain_items c.in-Link.is in
    let long : n ≡ length b.items = c.from-len.ensures ∙ c.len.ensures.len ∙ ap (λ n. length n.item.items) c.deref.ensures in
    let within = subst (λ (xs : List (Block g.row.R.Denot)). rest < length (all_items (reverse xs))) items c.loop-node.invariant.0 in
    let further = end-further b bs rest n long c.if-rest-len.false within in
    let next = ap (λ n. chain_items n.next) c.deref-in-Link.ensures in (
      subst (λ (xs : List (Block g.row.R.Denot)). rest - n < length (all_items (reverse xs))) (sym next) further.0,
      ap (λ (xs : List (Block g.row.R.Denot)). slice_get (all_items (reverse xs)) (length (all_items (reverse xs)) - (rest - n + 1))) next
          ∙ further.1
          ∙ sym (ap (λ (xs : List (Block g.row.R.Denot)). slice_get (all_items (reverse xs)) (length (all_items (reverse xs)) - (rest + 1))) items)
          ∙ c.loop-node.invariant.1,
    )
