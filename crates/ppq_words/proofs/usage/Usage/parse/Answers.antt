use Rattle.std.proofs.Common.{◌≡◌, ◌∙◌, sym, ap, subst, true, [], None}
use Rattle.clap.specs.Words.{App, HasMatchesOf, HasKind, fault_of, is_simple_and_free}
use Rattle.ppq_words.specs.Command.{command_app}
use Rattle.ppq_words.specs.Usage.{Usage, values_in}
use Rattle.ppq_words.specs.Reading.{texts_of}
use Rattle.ppq_words.specs.Strays.{may_parse}
use Rattle.ppq_words.proofs.Found.{parsed, not_handed}
use Rattle.ppq_words.specs.contracts.usage.Usage.{the_view}
use Rattle.ppq_words.proofs.usage.Usage.parse.Goals as goal

pub returns-then-not-may_parse-clause-values : goal.returns-then-not-may_parse-clause-values
returns-then-not-may_parse-clause-values c =
    let words = texts_of c.args.words.now in
    let none = not_handed (the_view c.self.inside) c.self.invariant words (sym c.may_parse.ensures ∙ c.if-not-may_parse.true) in
    subst (λ (u : Usage). None ≡ values_in u words) c.self.view_is none

pub returns-in-Ok-clause-values : goal.returns-in-Ok-clause-values
returns-in-Ok-clause-values c =
    let usage = the_view c.self.inside in
    let is = parsed usage c.self.invariant in
    let words = texts_of c.args.words.now in
    let may : may_parse usage.word words ≡ true = sym c.may_parse.ensures ∙ c.if-not-may_parse.false in
    let app_is = c.in_ok-command.ensures ∙ ap command_app (sym c.self.view_is) in
    let has : HasMatchesOf (command_app usage) words c.in-Ok.matches = subst (λ (a : App). HasMatchesOf a words c.in-Ok.matches) app_is c.in-Ok.ensures.matches in
    let clean : fault_of (command_app usage) words ≡ [] = sym (ap (λ (a : App). fault_of a words) app_is) ∙ c.in-Ok.ensures.kinds (ap is_simple_and_free app_is ∙ is.free) in
    is.found words c.in-Ok.matches may has clean ∙ ap (λ (u : Usage). values_in u words) c.self.view_is

pub returns-clause-values : goal.returns-clause-values
returns-clause-values c =
    let usage = the_view c.self.inside in
    let is = parsed usage c.self.invariant in
    let words = texts_of c.args.words.now in
    let may : may_parse usage.word words ≡ true = sym c.may_parse.ensures ∙ c.if-not-may_parse.false in
    let app_is = c.in_ok-command.ensures ∙ ap command_app (sym c.self.view_is) in
    let has : HasKind (fault_of (command_app usage) words) c.in-Err.error = subst (λ (a : App). HasKind (fault_of a words) c.in-Err.error) app_is (c.in-Err.ensures.kinds (ap is_simple_and_free app_is ∙ is.free)) in
    is.none_found words c.in-Err.error may has (λ memory. absurd (c.in_default.not-OutOfMemory (c.kind.ensures ∙ memory)))
    ∙ ap (λ (u : Usage). values_in u words) c.self.view_is
