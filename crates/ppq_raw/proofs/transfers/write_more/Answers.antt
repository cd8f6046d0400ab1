use Rattle.std.proofs.Common.{◌-◌, drop, length, arith, length-take, length-drop}
use Rattle.ppq_raw.proofs.Parts.{writes_more}
use Rattle.ppq_raw.proofs.transfers.write_more.Goals as goal

pub returns-clause-within : goal.returns-clause-within
returns-clause-within g c =
    let bytes = c.args.bytes.now in
    omega (arith, c.in_ok-count.ensures.bound, c.requires.room, length-take (length bytes - c.args.done) (drop c.args.done bytes), length-drop c.args.done bytes)

pub returns-clause-more : goal.returns-clause-more
returns-clause-more g c =
    writes_more (g.F.RawFile.holds c.args.file.now) (g.F.RawFile.holds c.write_at.new.self) c.args.bytes.now c.args.at c.args.done c.in_ok-count.count (omega (arith, c.requires.room)) c.in_ok-count.ensures.writes

pub returns-clause-none : goal.returns-clause-none
returns-clause-none g c =
    let bytes = c.args.bytes.now in
    λ none. c.in_ok-count.ensures.none none (omega (arith, c.requires.room, length-take (length bytes - c.args.done) (drop c.args.done bytes), length-drop c.args.done bytes))
