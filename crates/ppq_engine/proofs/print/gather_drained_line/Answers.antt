use Rattle.std.proofs.Common.{◌++◌}
use Rattle.std.specs.Prelude.{codes, decimal}
use Rattle.ppq_engine.specs.Output.{fields_text}
use Rattle.ppq_engine.proofs.Texts.{part-more}
use Rattle.ppq_engine.proofs.print.gather_drained_line.Goals as goal

pub returns : goal.returns
returns g c =
    let had = c.args.gathered.now in
    let count = decimal c.args.count in
    let first = fields_text (g.R.Fields.fields_of c.args.first) in
    let last = fields_text (g.R.Fields.fields_of c.args.last) in
    let sum = decimal c.args.sum in
    let one = codes "count " ++ count in
    let two = one ++ codes " first " in
    let three = two ++ first in
    let four = three ++ codes " last " in
    let five = four ++ last in
    let six = five ++ codes " sum " in
    let seven = six ++ sum in
    let counted = part-more had c.text.new.self c.number.new.self (codes "count ") count c.text.ensures c.number.ensures.text in
    let firsts = part-more had c.text-2.new.self c.gather_fields.new.gathered two first (part-more had c.number.new.self c.text-2.new.self one (codes " first ") counted c.text-2.ensures) c.gather_fields.ensures.text in
    let lasts = part-more had c.text-3.new.self c.gather_fields-2.new.gathered four last (part-more had c.gather_fields.new.gathered c.text-3.new.self three (codes " last ") firsts c.text-3.ensures) c.gather_fields-2.ensures.text in
    let sums = part-more had c.text-4.new.self c.number-2.new.self six sum (part-more had c.gather_fields-2.new.gathered c.text-4.new.self five (codes " sum ") lasts c.text-4.ensures) c.number-2.ensures.text in
    part-more had c.number-2.new.self c.text-5.new.self seven (codes "\n") sums c.text-5.ensures
