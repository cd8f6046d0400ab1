use Rattle.std.proofs.Common.{◌∙◌, ◌/◌, length, sym, ap}
use Rattle.ppq_load.specs.Given.{records_of}
use Rattle.ppq_load.proofs.PieceRecords.{length-piece}
use Rattle.ppq_load.proofs.piece.PieceMaker.left.Goals as goal

pub returns : goal.returns
returns g c =
    let record_of = g.R.Record.record_of in
    let width = g.R.Record.WIDTH in
    let bytes = c.self.inside.bytes.now in
    ap (λ k. length bytes / k) c.WIDTH.ensures ∙ sym (length-piece record_of width bytes) ∙ ap (λ b. length (records_of record_of width b)) c.self.view_is
