use Rattle.std.proofs.Common.{◌≡◌, ℕ, ◌-◌, ◌*◌, ◌<◌, ◌≤◌, ◌++◌, true, List, All, length, take, replicate, sym, ap, ap₂, ◌∙◌, subst, arith}
use Rattle.std.proofs.lemmas.List.{with_items_is}
use Rattle.ppq_record.specs.Given.{records_from}
use Rattle.ppq_block.specs.Block.{IsBuffer, holding}
use Rattle.ppq_block.proofs.Buffers.{block-is, fits, content-is, records-refilled, IsBuffer-refill}
use Rattle.ppq_block.proofs.buffer.Buffer.refill.Goals as goal

pub invariant_of-self : goal.invariant_of-self
invariant_of-self g c =
    let s = c.self.inside in
    let f = g.R.Record.record_of in
    let w = g.R.Record.WIDTH in
    let n = c.args.count in
    let within : n ≤ s.block = omega (arith, c.requires, block-is f w s.block s.count s.bytes.items c.args.self.now s.settled c.self.view_is) in
    let at : n * c.WIDTH.result ≡ n * w = ap (λ k. n * k) c.WIDTH.ensures in
    let now : c.zero_from.new.bytes ≡ take (n * w) s.bytes.items ++ replicate (length s.bytes.items - n * w) 0 =
    c.zero_from.ensures ∙ ap₂ (λ (b : List ℕ) (k : ℕ). take k b ++ replicate (length b - k) 0) c.as_mut_slice-bytes.ensures.value at in
    let filled = IsBuffer-refill w s.block s.count s.bytes.items s.settled n c.self.invariant within in
    let items = with_items_is s.bytes c.zero_from.new.bytes (ap length now ∙ filled.whole ∙ sym c.self.invariant.whole ∙ sym s.bytes.ok.0) ∙ now in
    subst (λ (b : List ℕ). IsBuffer w s.block n true b) (sym items) filled

pub returns : goal.returns
returns g c =
    let s = c.self.inside in
    let f = g.R.Record.record_of in
    let w = g.R.Record.WIDTH in
    let n = c.args.count in
    let block = block-is f w s.block s.count s.bytes.items c.args.self.now s.settled c.self.view_is in
    let within : n ≤ s.block = omega (arith, c.requires, block) in
    let at : n * c.WIDTH.result ≡ n * w = ap (λ k. n * k) c.WIDTH.ensures in
    let rest = replicate (length s.bytes.items - n * w) 0 in
    let now : c.zero_from.new.bytes ≡ take (n * w) s.bytes.items ++ rest =
    c.zero_from.ensures ∙ ap₂ (λ (b : List ℕ) (k : ℕ). take k b ++ replicate (length b - k) 0) c.as_mut_slice-bytes.ensures.value at in
    let filled = IsBuffer-refill w s.block s.count s.bytes.items s.settled n c.self.invariant within in
    let items = with_items_is s.bytes c.zero_from.new.bytes (ap length now ∙ filled.whole ∙ sym c.self.invariant.whole ∙ sym s.bytes.ok.0) ∙ now in
    let room : n * w ≤ length s.bytes.items = omega (arith, fits w s.block n within, c.self.invariant.whole) in
    let below : All (λ x. x < 256) s.bytes.items = subst (All (λ x. x < 256)) c.as_mut_slice-bytes.ensures.value c.known_bytes.ensures in
    let content = content-is f w s.block s.count s.bytes.items c.args.self.now g.R.Record.bytes_of c.record_laws.ensures.put_take below s.settled c.self.view_is c.self.invariant in
    ap₂ (λ b xs. holding b xs) (sym block) (ap (records_from f w n) items ∙ records-refilled f w s.block s.count s.bytes.items n rest room ∙ ap (records_from f w n) (sym content))
