use Rattle.std.proofs.Common.{◌≡◌, true, rules}
use Rattle.ppq_script.specs.Command.{is_file_name}
use Rattle.ppq_script.proofs.Spelling.{utf8_of_file_name}
use Rattle.ppq_script.proofs.line.file_name.Goals as goal

pub returns-in-Err : goal.returns-in-Err
returns-in-Err c =
    let is : is_file_name c.args.bytes.now ≡ true = search rules in
    absurd (c.in-Err.ensures.cases.0 (utf8_of_file_name c.args.bytes.now is))
