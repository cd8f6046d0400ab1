use Rattle.std.proofs.Common.{◌≡◌, ℕ, ◌∙◌, ◌+◌, ◌-◌, ◌*◌, ◌/◌, length, take, drop, min, ap, ap₂, arith}
use Rattle.std.proofs.Math.Nat.{add-mul}
use Rattle.ppq_load.specs.Given.{records_of}
use Rattle.ppq_load.proofs.PieceRecords.{piece-part}
use Rattle.ppq_load.proofs.piece.PieceMaker.part.Goals as goal

pub returns : goal.returns
returns g c =
    let record_of = g.R.Record.record_of in
    let width = g.R.Record.WIDTH in
    let bytes = c.self.inside.bytes.now in
    let from = c.args.from in
    let count = c.args.count in
    let size = c.WIDTH-width.result in
    let is : size ≡ width = c.WIDTH-width.ensures in
    let left : length bytes / size ≡ length bytes / width = ap (λ k. length bytes / k) is in
    let a = c.min-skipped.result in
    let n = c.min-own.result in
    let skipped : a ≡ min from (length bytes / width) = c.min-skipped.ensures ∙ ap (min from) left in
    let own : n ≡ min count (length bytes / width - a) = c.min-own.ensures ∙ ap (λ k. min count (k - a)) left in
    let long : (a + n) * size - a * size ≡ n * width = omega (arith, add-mul a n size, ap (λ k. n * k) is) in
    let start : a * size ≡ a * width = ap (λ k. a * k) is in
    ap₂ (λ (i j : ℕ). records_of record_of width (take i (drop j bytes))) long start ∙ piece-part record_of width bytes from count a n c.record_laws.ensures.width.0 skipped own
    ∙ ap (λ b. take count (drop from (records_of record_of width b))) c.self.view_is
