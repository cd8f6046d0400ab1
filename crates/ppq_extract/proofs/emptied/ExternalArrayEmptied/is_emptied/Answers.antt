use Rattle.std.proofs.Common.{IsNone, refl, sym, subst, ◌∙◌, arith}
use Rattle.std.proofs.lemmas.Bool.{eqb-true, eqb-false}
use Rattle.ppq_extract.proofs.Emptying.{some_next, some_loaded, empty_array}
use Rattle.ppq_extract.proofs.emptied.ExternalArrayEmptied.is_emptied.Goals as goal

pub returns-in-Some-clause-some : goal.returns-in-Some-clause-some
returns-in-Some-clause-some g c = λ _. some_next g.R.Record.record_of g.R.Record.WIDTH g.S.Slot.shown c.args.self.now c.next_minimum.result c.in-Some._next c.in-Some.is c.next_minimum.ensures.none c.next_minimum.ensures.labelled

pub returns-in-None-clause-some : goal.returns-in-None-clause-some
returns-in-None-clause-some g c = λ e. some_loaded c.args.self.now (omega (arith, eqb-false c.loaded.result 0 e, c.loaded.ensures.loaded))

pub returns-in-None-clause-emptied : goal.returns-in-None-clause-emptied
returns-in-None-clause-emptied g c = λ e.
    let none : IsNone c.next_minimum.result = subst IsNone (sym c.in-None.is) refl in
    empty_array c.args.self.now c.loaded.ensures.run c.requires.1 c.requires.0 (c.next_minimum.ensures.none.0 none) (sym c.loaded.ensures.loaded ∙ eqb-true c.loaded.result 0 e)
