use Rattle.std.proofs.Common.{◌≤◌, ◌-◌, ◌∙◌, length, drop, ap, arith}
use Rattle.ppq_frames.specs.Buffered.{Buffered}
use Rattle.ppq_frames.proofs.Windows.{window-behind, window-length}
use Rattle.ppq_frames.proofs.buffer.Buffer.skip.Goals as goal

pub returns : goal.returns
returns c =
    let s = c.self.inside in
    let waits = ap (λ (b : Buffered). b.waiting) c.self.view_is in
    let few : c.args.count ≤ s.to - s.from = omega (arith, c.requires, ap length waits, window-length s.from s.to s.bytes.items (omega (arith, c.self.invariant.1, s.bytes.ok.0))) in
    window-behind s.from s.to c.args.count s.bytes.items few ∙ ap (drop c.args.count) waits
