use Rattle.std.proofs.Common.{ℕ, List, subst}
use Rattle.std.proofs.lemmas.List.{take_all}
use Rattle.ppq_raw.specs.Transfers.{Gives}
use Rattle.ppq_raw.proofs.transfers.read_whole.Goals as goal

pub returns-clause-gives : goal.returns-clause-gives
returns-clause-gives g c =
    let P : List ℕ → Type 0 = λ t. Gives (g.F.RawFile.holds c.args.file.now) c.args.at t in
    subst P (take_all c.reading.got c.reading.into c.reading-test.false) c.reading.invariant.given
