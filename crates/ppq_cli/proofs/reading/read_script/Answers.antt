use Rattle.ppq_words.specs.ppq_script.Words.{words}
use Rattle.ppq_words.proofs.ppq_script.WordLaws.{laws_of}
use Rattle.ppq_cli.proofs.ReadFrom.{IsReadFrom, checked_refused}
use Rattle.ppq_cli.proofs.reading.read_script.Goals as goal

pub returns-in-Err-clause-refused : goal.returns-in-Err-clause-refused
returns-in-Err-clause-refused g c =
    let all = words g.R.PartialEq g.R.PartialOrd g.R.Ord g.R.Record g.R.Fields in
    let old = c.in-Ok.script in
    let read : IsReadFrom all c.args.bytes.now c.args.workers old = record { commands = c.in-Ok.ensures.commands; names = c.in-Ok.ensures.names; bad = c.in-Ok.ensures.bad; files = c.in-Ok.ensures.files } in
    checked_refused all (laws_of all g.met.R.Fields.fields g.met.R.Record.same) (g.L.Library.told c.args.library.now) (g.L.Library.replied c.check_files.new.library) c.args.bytes.now c.args.workers old c.check_files.result c.in-Err.fault c.in-Err.is read c.check_files.ensures.answer c.in-Err.ensures.refused
