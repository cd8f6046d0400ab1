use Rattle.std.proofs.Common.{◌≡◌, ◌∙◌, ◌<◌, ℕ, List, [], Some, length, sym, ap, subst, map, rules}
use Rattle.std.proofs.lemmas.List.{get_or-map}
use Rattle.std.specs.Prelude.{string_bytes}
use Rattle.ppq_files.specs.Lengths.{LengthRefusalIsRight}
use Rattle.ppq_script.specs.declared.check.CheckFault.{CheckFault}
use Rattle.ppq_script.specs.Checking.{ItemRefusalIsRight}
use Rattle.ppq_script.specs.Files.{file_in, name_at}
use Rattle.ppq_script.specs.Words.{words}
use Rattle.ppq_script.proofs.Checks.{item_refusal}
use Rattle.ppq_files.proofs.Asked.{asks_length}
use Rattle.ppq_script.proofs.check.ask.Goals as goal

pub returns-in-Ok-clause-library : goal.returns-in-Ok-clause-library
returns-in-Ok-clause-library g c = asks_length g.L.Library.told g.L.Library.replied _ c.record_length.ensures.library

pub returns-in-Err-clause-library : goal.returns-in-Err-clause-library
returns-in-Err-clause-library g c = asks_length g.L.Library.told g.L.Library.replied _ c.record_length.ensures.library

pub returns-in-Err-clause-refused : goal.returns-in-Err-clause-refused
returns-in-Err-clause-refused g c =
    let w = words g.R.PartialEq g.R.PartialOrd g.R.Ord g.R.Record g.R.Fields in
    let names = map string_bytes c.args.names.now in
    let replied = g.L.Library.replied c.record_length.new.library in
    let item = c.args.item.now in
    let file : ℕ × ℕ = (c.in-Bulk.file, c.in-Bulk.length) in
    let name = c.index-names-file in
    let below : c.in-Bulk.file < length c.args.names.now = search rules in
    let named : c.as_str.result.now ≡ name_at names c.in-Bulk.file = c.as_str.ensures.value ∙ (ap string_bytes name.is ∙ sym (get_or-map string_bytes c.args.names.now c.in-Bulk.file name.result [] below)) in
    let is : file_in item.command ≡ Some file = search rules in
    let refused = subst (λ (n : List ℕ). LengthRefusalIsRight w.WIDTH replied n c.in-Err.fault) named c.in-Err.ensures.refused in
    subst (λ (f : CheckFault). ItemRefusalIsRight w replied names item f) (sym c.refused.ensures) (item_refusal w replied names item file c.in-Err.fault is refused)
