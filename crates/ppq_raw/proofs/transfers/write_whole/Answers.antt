use Rattle.std.proofs.Common.{ℕ, List, subst}
use Rattle.std.proofs.lemmas.List.{take_all}
use Rattle.ppq_raw.specs.Transfers.{Writes}
use Rattle.ppq_raw.proofs.transfers.write_whole.Goals as goal

pub returns-clause-writes : goal.returns-clause-writes
returns-clause-writes g c =
    let P : List ℕ → Type 0 = λ t. Writes (g.F.RawFile.holds c.args.file.now) (g.F.RawFile.holds c.writing.file) c.args.at t in
    subst P (take_all c.writing.done c.args.bytes.now c.writing-test.false) c.writing.invariant.written
