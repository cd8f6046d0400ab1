use Rattle.std.proofs.Common.{◌≡◌, length, position, Some, None, ◌==◌, sym}
use Rattle.ppq_script.proofs.LineLemmas.{from_place}
use Rattle.ppq_script.proofs.FieldLemmas.{fields_of-cut, fields_of-last}
use Rattle.ppq_script.proofs.fields.cut_field.Goals as goal

pub returns-in-Some : goal.returns-in-Some
returns-in-Some c =
    let at : position (λ b. b == 32) c.args.text.now ≡ Some c.in-Some.end = sym c.in-Some.ensures in
    rw (from_place c.args.text.now c.in-Some.end) (fields_of-cut c.args.text.now c.in-Some.end c.requires at)

pub returns-in-None : goal.returns-in-None
returns-in-None c =
    let at : position (λ b. b == 32) c.args.text.now ≡ None = sym c.in-None.ensures in
    rw (from_place c.args.text.now (length c.args.text.now)) (fields_of-last c.args.text.now c.requires at)
