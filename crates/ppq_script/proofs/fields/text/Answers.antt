use Rattle.std.proofs.Common.{◌≡◌, ◌≢◌, ℕ, [], ◌∷◌, ◌++◌, sym, ap, ◌∙◌, rules}
use Rattle.ppq_script.specs.Lines.{text_of}
use Rattle.ppq_script.proofs.FieldLemmas.{text_of-return, text_of-other}
use Rattle.ppq_script.proofs.fields.text.Goals as goal

pub returns-then-cut-eq13 : goal.returns-then-cut-eq13
returns-then-cut-eq13 c =
    let last : c.in-Some.cut.0.now ≡ 13 = search rules in
    sym (ap text_of c.in-Some.ensures.cases.0 ∙ ap (λ (b : ℕ). text_of (c.in-Some.cut.1.now ++ b ∷ [])) last ∙ text_of-return c.in-Some.cut.1.now)

pub returns-else-cut-eq13 : goal.returns-else-cut-eq13
returns-else-cut-eq13 c =
    let last : c.in-Some.cut.0.now ≢ 13 = search rules in
    c.in-Some.ensures.cases.0 ∙ sym (ap text_of c.in-Some.ensures.cases.0 ∙ text_of-other c.in-Some.cut.1.now c.in-Some.cut.0.now last)
