use Rattle.std.proofs.Common.{◌≡◌, ◌≤◌, ◌<◌, ◌+◌, ◌*◌, ℕ, ◌++◌, length, take, drop, sym, ap, ap₂, subst, arith, length-take-le}
use Rattle.ppq_files.specs.Filling.{PieceEndsIn}
use Rattle.ppq_files.specs.Pieces.{PieceState, IsNextPiece}
use Rattle.ppq_files.specs.Reading.{HasLength, ReadsFile}
use Rattle.ppq_files.proofs.Asked.{reads-wider}
use Rattle.ppq_files.proofs.Truth.{ends_early}
use Rattle.ppq_files.proofs.Widths.{next-end, next-fits, next-piece}
use Rattle.ppq_files.proofs.pieces.Pieces.next.Given as over
use Rattle.ppq_files.proofs.pieces.Pieces.next.Goals.{After-min-count}
use Rattle.ppq_files.proofs.pieces.Pieces.next.Goals as goal

-- what was read so far lies within the bytes that were said
read : (g : over.Over) (c : After-min-count g) → c.self.inside.from * c.WIDTH-width.result ≤ c.self.inside.said
read g c = omega (arith, ap₂ (λ (s : PieceState) (k : ℕ). s.from * k) c.self.view_is c.WIDTH-width.ensures, ap (λ (s : PieceState). s.said) c.self.view_is, c.requires.within)

-- the front of the room has just the next records
front : (g : over.Over) (c : After-min-count g) → length (take (c.min-count.result * c.WIDTH-width.result) c.args.room.now) ≡ c.min-count.result * c.WIDTH-width.result
front g c =
    let w = c.WIDTH-width.result in
    let some : 0 < w = omega (arith, c.record_laws.ensures.width.0, c.WIDTH-width.ensures) in
    length-take-le (c.min-count.result * w) c.args.room.now (next-fits w c.self.inside.said c.self.inside.from c.min-count.result (length c.args.room.now) some (read g c) c.min-count.ensures)

-- and they lie within those bytes too
end : (g : over.Over) (c : After-min-count g) → c.self.inside.from * c.WIDTH-width.result + length (take (c.min-count.result * c.WIDTH-width.result) c.args.room.now) ≤ c.self.inside.said
end g c =
    let w = c.WIDTH-width.result in
    let some : 0 < w = omega (arith, c.record_laws.ensures.width.0, c.WIDTH-width.ensures) in
    next-end w c.self.inside.said c.self.inside.from c.min-count.result (length c.args.room.now) some (read g c) c.min-count.ensures (length (take (c.min-count.result * w) c.args.room.now)) (front g c)

pub fill-requires-after_bounds : goal.fill-requires-after_bounds
fill-requires-after_bounds g c κs within = omega (arith, end g (goal.at.fill-requires-after_bounds g c).After-min-count, ap (λ (s : PieceState). s.said) c.self.view_is, c.requires.fits)

pub returns-in-Err-clause-ended : goal.returns-in-Err-clause-ended
returns-in-Err-clause-ended g c =
    let told = g.L.Library.told c.args.library.now in
    let replied = g.L.Library.replied c.fill.new.library in
    let w = c.WIDTH-width.result in
    let from = c.self.inside.from in
    let said = c.self.inside.said in
    let piece = take (c.min-count.result * w) c.args.room.now in
    let has : HasLength told c.self.inside.name.now said = subst (λ (s : PieceState). HasLength told s.name s.said) (sym c.self.view_is) c.requires.long in
    subst (λ (s : PieceState). PieceEndsIn told replied s.name s.said c.in-Err.fault) c.self.view_is
    (ends_early told replied c.self.inside.name.now said (from * w) (from * w + length piece) c.in-Err.fault has (end g (goal.at.returns-in-Err-clause-ended g c).After-min-count) c.in-Err.ensures.ended)

pub returns-in-Err-clause-reads : goal.returns-in-Err-clause-reads
returns-in-Err-clause-reads g c =
    subst (λ (s : PieceState). ReadsFile g.L.Library.told g.L.Library.replied s.name s.said c.args.library.now c.fill.new.library) c.self.view_is
    (reads-wider g.L.Library.told g.L.Library.replied c.self.inside.name.now (end g (goal.at.returns-in-Err-clause-reads g c).After-min-count) c.fill.ensures.reads)

pub returns-clause-piece : goal.returns-clause-piece
returns-clause-piece g c =
    let told = g.L.Library.told c.args.library.now in
    let replied = g.L.Library.replied c.fill.new.library in
    let w = c.WIDTH-width.result in
    let from = c.self.inside.from in
    let said = c.self.inside.said in
    let count = c.min-count.result in
    let name = c.self.inside.name.now in
    let piece = c.fill.new.piece in
    let bytes = length (take (count * w) c.args.room.now) in
    let rest = drop (count * w) c.args.room.now in
    let at = (goal.at.returns-clause-piece g c).After-min-count in
    let some : 0 < w = omega (arith, c.record_laws.ensures.width.0, c.WIDTH-width.ensures) in
    let holds : w ≤ length c.args.room.now = omega (arith, c.WIDTH-width.ensures, c.requires.room) in
    let all = c.in_default.ensures in
    let new : PieceState = record { name = name; said = said; from = from + count } in
    let made = next-piece w said from count (length c.args.room.now) some (read g at) c.min-count.ensures told replied name piece rest bytes (front g at) c.fill.auto.piece holds all.given all.bytes in
    subst (λ (k : ℕ). IsNextPiece k told replied c.args.self.now (take bytes (piece ++ rest)) bytes new) c.WIDTH-width.ensures
    (subst (λ (s : PieceState). IsNextPiece w told replied s (take bytes (piece ++ rest)) bytes new) c.self.view_is made)

pub returns-clause-reads : goal.returns-clause-reads
returns-clause-reads g c =
    subst (λ (s : PieceState). ReadsFile g.L.Library.told g.L.Library.replied s.name s.said c.args.library.now c.fill.new.library) c.self.view_is
    (reads-wider g.L.Library.told g.L.Library.replied c.self.inside.name.now (end g (goal.at.returns-clause-reads g c).After-min-count) c.fill.ensures.reads)
