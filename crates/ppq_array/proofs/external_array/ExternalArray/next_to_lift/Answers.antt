use Rattle.std.proofs.Common.{All, take, drop, length, refl, sym, ap, ◌∙◌, subst, arith}
use Rattle.ppq_array.specs.External.{IsLabelled}
use Rattle.ppq_array.proofs.Noted.{none_at, some_at, all_right, is_labelled}
use Rattle.ppq_array.proofs.external_array.ExternalArray.next_to_lift.Goals as goal

pub returns-in-Some-clause-none : goal.returns-in-Some-clause-none
returns-in-Some-clause-none g c =
    let s = c.self.inside in
    let labelled = all_right (IsLabelled g.R.Record.record_of g.R.Record.WIDTH g.S.Slot.shown) (take s.lifted (drop s.accepted s.was.value)) s.stored c.self.invariant.labelled in
    let first = some_at s.stored c.in-Some.block.now (sym c.in-Some.ensures) in
    let some = (first.1 (IsLabelled g.R.Record.record_of g.R.Record.WIDTH g.S.Slot.shown) labelled).labelled in
    (λ none. absurd (is_labelled c.in-Some.block.now.minimum some none), λ e. absurd (omega (arith, first.0, ap length (ap (λ a. a.stored) c.self.view_is ∙ e))))

pub returns-in-Some-clause-labelled : goal.returns-in-Some-clause-labelled
returns-in-Some-clause-labelled g c =
    let s = c.self.inside in
    let labelled = all_right (IsLabelled g.R.Record.record_of g.R.Record.WIDTH g.S.Slot.shown) (take s.lifted (drop s.accepted s.was.value)) s.stored c.self.invariant.labelled in
    subst (λ a. All (IsLabelled g.R.Record.record_of g.R.Record.WIDTH g.S.Slot.shown) a.stored) c.self.view_is labelled

pub returns-in-None-clause-none : goal.returns-in-None-clause-none
returns-in-None-clause-none g c =
    (λ _. sym (ap (λ a. a.stored) c.self.view_is) ∙ none_at c.self.inside.stored (sym c.in-None.ensures), λ _. refl)
