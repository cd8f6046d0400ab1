use Rattle.std.proofs.Common.{◌≡◌, ◌∙◌, ◌-◌, ◌<◌, ◌≤◌, List, ◌∷◌, length, take, drop, sym, ap, ap₂, arith, length-drop}
use Rattle.std.proofs.lemmas.List.{take_all}
use Rattle.ppq_load.specs.Given.{records_of}
use Rattle.ppq_load.proofs.PieceRecords.{piece-first, piece-none}
use Rattle.ppq_load.proofs.piece.PieceMaker.make.Goals as goal

pub returns-then-bytes-width-clause-end : goal.returns-then-bytes-width-clause-end
returns-then-bytes-width-clause-end g c =
    let record_of = g.R.Record.record_of in
    let width = g.R.Record.WIDTH in
    let bytes = c.self.inside.bytes.now in
    let few : length bytes < width = omega (arith, c.if-bytes-width.true, c.WIDTH-width.ensures) in
    ap (λ b. records_of record_of width b) (sym c.self.view_is) ∙ piece-none record_of width bytes few

pub returns-clause-made : goal.returns-clause-made
returns-clause-made g c =
    let record_of = g.R.Record.record_of in
    let width = g.R.Record.WIDTH in
    let bytes = c.self.inside.bytes.now in
    let size = c.WIDTH-width.result in
    let room : width ≤ length bytes = omega (arith, c.if-bytes-width.false, c.WIDTH-width.ensures) in
    let first : record_of (take width bytes) ≡ c.take.result = ap (λ k. record_of (take k bytes)) (sym c.WIDTH-width.ensures) ∙ sym c.take.ensures.record in
    let rest : drop width bytes ≡ take (length bytes - size) (drop size bytes) = ap (λ k. drop k bytes) (sym c.WIDTH-width.ensures) ∙ sym (take_all (length bytes - size) (drop size bytes) (omega (arith, length-drop size bytes))) in
    ap (λ b. records_of record_of width b) (sym c.self.view_is) ∙ piece-first record_of width bytes c.record_laws.ensures.width.0 room
    ∙ ap₂ (λ (x : g.row.R.Denot) (xs : List g.row.R.Denot). x ∷ xs) first (ap (λ b. records_of record_of width b) rest)
