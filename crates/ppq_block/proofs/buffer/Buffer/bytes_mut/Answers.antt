use Rattle.std.proofs.Common.{◌≡◌, ℕ, ◌*◌, ◌<◌, ◌++◌, List, All, length, take, drop, refl, sym, ap, ap₂, ◌∙◌, subst}
use Rattle.ppq_block.specs.Block.{handed_out}
use Rattle.ppq_block.proofs.Buffers.{block-is, content-is}
use Rattle.ppq_block.proofs.buffer.Buffer.bytes_mut.Goals as goal

pub returns : goal.returns
returns g c =
    let s = c.self.inside in
    let f = g.R.Record.record_of in
    let w = g.R.Record.WIDTH in
    let block = block-is f w s.block s.count s.bytes.items c.args.self.now s.settled c.self.view_is in
    let whole : length s.bytes.items ≡ c.args.self.now.block * w = c.self.invariant.whole ∙ ap (λ k. k * w) (sym block) in
    let below : All (λ x. x < 256) s.bytes.items = subst (All (λ x. x < 256)) c.as_slice.ensures.value c.known_bytes.ensures in
    let content = content-is f w s.block s.count s.bytes.items c.args.self.now g.R.Record.bytes_of c.record_laws.ensures.put_take below s.settled c.self.view_is c.self.invariant in (
      (
        refl,
        λ bytes. ap₂ (λ (b : ℕ) (x : List ℕ). handed_out {R = g.row.R.Denot} b x) (sym block)
            (ap₂ (λ (n : ℕ) (old : List ℕ). take n (bytes ++ drop (length bytes) old)) (s.bytes.ok.0 ∙ whole) (sym content)),
      ),
      record { handed = tt; length = ap length c.as_mut_slice.ensures.value ∙ whole },
    )
