use Rattle.std.proofs.Common.{refl, ◌+◌, ◌%◌, ◌^◌, ◌∙◌, ℕ, sym, ap}
use Rattle.std.specs.Prelude.{unwrap_or}
use Rattle.std.proofs.lemmas.Option.{get_or_from_slice_get}
use Rattle.ppq_script.specs.Words.{words}
use Rattle.ppq_engine.proofs.Popped.{summary-more}
use Rattle.ppq_engine.proofs.drained.Drained.add.Goals as goal

pub returns-clause-summary : goal.returns-clause-summary
returns-clause-summary g c =
    let w = words g.R.PartialEq g.R.PartialOrd g.R.Ord g.R.Record g.R.Fields in
    let first = get_or_from_slice_get (g.R.Fields.fields_of c.args.item) 0 c.field.result 0 c.field.ensures in
    λ items is.
    summary-more w items c.args.item c.args.self _ c.unwrap_or.result is refl refl
    (λ none. c.unwrap_or.ensures ∙ ap (λ o. unwrap_or o c.args.item) none) (λ y some. c.unwrap_or.ensures ∙ ap (λ o. unwrap_or o c.args.item) some) refl (ap (λ (n : ℕ). (c.args.self.sum + n) % 2 ^ 64) (sym first))
