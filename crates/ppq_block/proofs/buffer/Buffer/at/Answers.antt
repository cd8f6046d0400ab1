use Rattle.std.proofs.Common.{◌+◌, ◌*◌, ◌≤◌, length, take, drop, Some, sym, ap, ◌∙◌, arith}
use Rattle.ppq_block.proofs.Buffers.{length-items, slice_get-items, fits}
use Rattle.ppq_block.proofs.buffer.Buffer.at.Goals as goal

pub take_at-requires : goal.take_at-requires
take_at-requires g c =
    let s = c.self.inside in
    let e = length-items g.R.Record.record_of g.R.Record.WIDTH s.block s.count s.bytes.items c.args.self.now s.settled c.self.view_is c.self.invariant.none in
    let h : c.args.i + 1 ≤ s.block = omega (arith, c.requires, e, c.self.invariant.fits) in
    omega (arith, fits g.R.Record.WIDTH s.block (c.args.i + 1) h, c.self.invariant.whole, ap length c.as_slice.ensures.value)

pub returns-clause-record : goal.returns-clause-record
returns-clause-record g c =
    let s = c.self.inside in
    let f = g.R.Record.record_of in
    let w = g.R.Record.WIDTH in
    slice_get-items f w s.block s.count s.bytes.items c.args.self.now s.settled c.self.view_is c.args.i c.requires
    ∙ ap Some (sym (c.take_at.ensures.record ∙ ap (λ b. f (take w (drop (c.args.i * w) b))) c.as_slice.ensures.value))
