use Rattle.std.proofs.Common.{◌≡◌, ℕ, ◌*◌, ◌++◌, true, cond, List, length, drop, replicate, sym, ap, ap₂, ◌∙◌, subst}
use Rattle.std.proofs.lemmas.List.{with_items_is}
use Rattle.ppq_block.specs.Block.{IsBuffer}
use Rattle.ppq_block.proofs.Buffers.{IsBuffer-clear}
use Rattle.ppq_block.proofs.buffer.Buffer.clear.Goals as goal

pub invariant_of-self : goal.invariant_of-self
invariant_of-self g c =
    let s = c.self.inside in
    let w = g.R.Record.WIDTH in
    let used = c.either-used.result in
    let new = replicate used 0 ++ drop used s.bytes.items in
    let now : c.zero_to.new.bytes ≡ new = c.zero_to.ensures ∙ ap (λ (b : List ℕ). replicate used 0 ++ drop used b) c.as_mut_slice-bytes.ensures.value in
    let is : used ≡ cond s.settled (s.count * w) (length s.bytes.items) = c.either-used.ensures ∙ ap₂ (λ (x y : ℕ). cond s.settled x y) (ap (λ k. s.count * k) c.WIDTH.ensures) (c.len.ensures ∙ s.bytes.ok.0) in
    let cleared = IsBuffer-clear w s.block s.count s.bytes.items s.settled used is c.self.invariant in
    let items = with_items_is s.bytes c.zero_to.new.bytes (ap length now ∙ cleared.whole ∙ sym c.self.invariant.whole ∙ sym s.bytes.ok.0) ∙ now in
    subst (λ (b : List ℕ). IsBuffer w s.block 0 true b) (sym items) cleared
