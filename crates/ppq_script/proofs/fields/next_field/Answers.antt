use Rattle.std.proofs.Common.{sym, ◌∙◌, ap}
use Rattle.ppq_script.specs.Lines.{fields_of}
use Rattle.ppq_script.proofs.LineLemmas.{from_place}
use Rattle.ppq_script.proofs.FieldLemmas.{fields_of-none, fields_of-from, BeginsField-from}
use Rattle.ppq_script.proofs.fields.next_field.Goals as goal

pub returns-in-None : goal.returns-in-None
returns-in-None c = fields_of-none c.args.text.now (sym c.in-None.ensures)

pub cut_field-requires : goal.cut_field-requires
cut_field-requires c = rw (from_place c.args.text.now c.in-Some.start) (BeginsField-from c.args.text.now c.in-Some.start (sym c.in-Some.ensures))

pub returns-in-Some : goal.returns-in-Some
returns-in-Some c = fields_of-from c.args.text.now c.in-Some.start (sym c.in-Some.ensures) ∙ ap fields_of (sym (from_place c.args.text.now c.in-Some.start)) ∙ c.cut_field.ensures
