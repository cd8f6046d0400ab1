use Rattle.std.proofs.Common.{subst}
use Rattle.std.proofs.lemmas.List.{take_all}
use Rattle.ppq_files.specs.Reading.{IsGivenAt}
use Rattle.ppq_files.proofs.Truth.{AreTrue, given_are}
use Rattle.ppq_files.proofs.fill.fill.Goals as goal

pub returns-clause-bytes : goal.returns-clause-bytes
returns-clause-bytes g c =
    let told = g.L.Library.told c.args.library.now in
    let replied = g.L.Library.replied c.reading.library in
    let name = c.args.name.now in
    let true : AreTrue told replied = subst (λ t. AreTrue t replied) c.reading.invariant.reads.told (g.met.L.Library.truth c.reading.library) in
    let given : IsGivenAt replied name c.args.at c.reading.piece = subst (IsGivenAt replied name c.args.at) (take_all c.reading.got c.reading.piece c.reading-test.false) c.reading.invariant.given in
    given_are told replied name c.args.at c.reading.piece true given
