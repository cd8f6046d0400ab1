use Rattle.std.proofs.Common.{subst}
use Rattle.ppq_script.specs.Words.{words}
use Rattle.ppq_script.proofs.Asking.{faults_later, faults_read, faults_stay, faults_unless}
use Rattle.ppq_script.proofs.Checks.{AreTrue, check_answer, check_lengths}
use Rattle.ppq_script.proofs.check.check_files.Goals as goal

pub returns-clause-answer : goal.returns-clause-answer
returns-clause-answer g c =
    let replied = g.L.Library.replied c.ask_lengths.new.library in
    let sure : AreTrue (g.L.Library.told c.args.library.now) replied = subst (λ t. AreTrue t replied) c.ask_lengths.ensures.library.told (g.met.L.Library.truth c.ask_lengths.new.library) in
    check_answer (words g.R.PartialEq g.R.PartialOrd g.R.Ord g.R.Record g.R.Fields) (g.L.Library.told c.args.library.now) replied c.args.script.now c.ask_lengths.new.self c.ask_lengths.result sure c.ask_lengths.ensures.asked c.ask_lengths.ensures.good c.ask_lengths.ensures.refused

pub returns-clause-lengths : goal.returns-clause-lengths
returns-clause-lengths g c =
    let replied = g.L.Library.replied c.ask_lengths.new.library in
    let sure : AreTrue (g.L.Library.told c.args.library.now) replied = subst (λ t. AreTrue t replied) c.ask_lengths.ensures.library.told (g.met.L.Library.truth c.ask_lengths.new.library) in
    check_lengths (words g.R.PartialEq g.R.PartialOrd g.R.Ord g.R.Record g.R.Fields) (g.L.Library.told c.args.library.now) replied c.args.script.now c.ask_lengths.new.self c.ask_lengths.result sure c.ask_lengths.ensures.asked

pub returns-clause-read : goal.returns-clause-read
returns-clause-read g c = faults_read _ _ c.ask_lengths.result c.ask_lengths.ensures.faults

pub returns-clause-later : goal.returns-clause-later
returns-clause-later g c = faults_later _ _ c.ask_lengths.result c.ask_lengths.ensures.faults

pub returns-clause-stays : goal.returns-clause-stays
returns-clause-stays g c = faults_stay _ _ c.ask_lengths.result c.ask_lengths.ensures.faults

pub returns-clause-unless : goal.returns-clause-unless
returns-clause-unless g c = faults_unless _ _ c.ask_lengths.result c.ask_lengths.ensures.faults
