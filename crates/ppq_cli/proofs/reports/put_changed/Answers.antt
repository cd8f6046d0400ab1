use Rattle.std.proofs.Common.{◌++◌, decimal}
use Rattle.std.specs.Prelude.{codes}
use Rattle.ppq_words.proofs.ppq_outside.Takes.{takes_and_part, part_of_more}
use Rattle.ppq_cli.proofs.reports.put_changed.Goals as goal

pub returns-in_err-put_number-clause-part : goal.returns-in_err-put_number-clause-part
returns-in_err-put_number-clause-part g c =
    let told = g.O.Sink.told in
    part_of_more (told c.args.out.now) (told c.put_number.new.out) (codes "ppq: line " ++ decimal c.args.line ++ codes ": file changed, said ")
    ((codes "" ++ decimal c.args.said ++ codes ", got ") ++ (codes "" ++ decimal c.args.got ++ codes "\n")) c.in_err-put_number.ensures.part

pub returns-in_err-put_number-2-clause-part : goal.returns-in_err-put_number-2-clause-part
returns-in_err-put_number-2-clause-part g c =
    let told = g.O.Sink.told in
    takes_and_part (told c.args.out.now) (told c.put_number.new.out) (told c.put_number-2.new.out) (codes "ppq: line " ++ decimal c.args.line ++ codes ": file changed, said ")
    ((codes "" ++ decimal c.args.said ++ codes ", got ") ++ (codes "" ++ decimal c.args.got ++ codes "\n")) c.in_ok-put_number.ensures.all
    (part_of_more (told c.put_number.new.out) (told c.put_number-2.new.out) (codes "" ++ decimal c.args.said ++ codes ", got ") (codes "" ++ decimal c.args.got ++ codes "\n") c.in_err-put_number-2.ensures.part)

pub returns-clause-part : goal.returns-clause-part
returns-clause-part g c =
    let told = g.O.Sink.told in
    takes_and_part (told c.args.out.now) (told c.put_number.new.out) (told c.put_number-3.new.out) (codes "ppq: line " ++ decimal c.args.line ++ codes ": file changed, said ")
    ((codes "" ++ decimal c.args.said ++ codes ", got ") ++ (codes "" ++ decimal c.args.got ++ codes "\n")) c.in_ok-put_number.ensures.all
    (takes_and_part (told c.put_number.new.out) (told c.put_number-2.new.out) (told c.put_number-3.new.out) (codes "" ++ decimal c.args.said ++ codes ", got ") (codes "" ++ decimal c.args.got ++ codes "\n") c.in_ok-put_number-2.ensures.all c.put_number-3.ensures.part)
