use Rattle.std.proofs.Common.{take, drop, sym, ap, ◌∙◌, subst}
use Rattle.ppq_array.specs.External.{external, IsLabelled, Accepts, FirstTells, records_in}
use Rattle.ppq_array.proofs.Noted.{accepts, accepts_some, accepted_same, all_left}
use Rattle.ppq_array.proofs.external_array.ExternalArray.accept_block.Goals as goal

pub add-requires-clause-some : goal.add-requires-clause-some
add-requires-clause-some g c =
    let s = c.self.inside in
    let f = g.R.Record.record_of in
    let w = g.R.Record.WIDTH in
    let first = subst (λ a. Accepts f w g.S.Slot.shown a.lifted c.args.buf) (sym c.self.view_is) c.requires.first in
    accepts_some f w g.S.Slot.shown (take s.lifted (drop s.accepted s.was.value)) c.args.buf first (all_left (IsLabelled f w g.S.Slot.shown) (take s.lifted (drop s.accepted s.was.value)) s.stored c.self.invariant.labelled)

pub invariant_of-self : goal.invariant_of-self
invariant_of-self g c =
    let s = c.self.inside in
    let f = g.R.Record.record_of in
    let w = g.R.Record.WIDTH in
    let first = subst (λ a. Accepts f w g.S.Slot.shown a.lifted c.args.buf) (sym c.self.view_is) c.requires.first in
    (accepts f w g.S.Slot.shown s.loaded s.was.value s.accepted s.lifted s.stored s.len c.self.invariant c.args.buf c.add.new.self first c.add.ensures.items).1

pub returns-clause-same : goal.returns-clause-same
returns-clause-same g c =
    let s = c.self.inside in
    let f = g.R.Record.record_of in
    let w = g.R.Record.WIDTH in
    let before = take s.lifted (drop s.accepted s.was.value) in
    let first = subst (λ a. Accepts f w g.S.Slot.shown a.lifted c.args.buf) (sym c.self.view_is) c.requires.first in
    let next = accepts f w g.S.Slot.shown s.loaded s.was.value s.accepted s.lifted s.stored s.len c.self.invariant c.args.buf c.add.new.self first c.add.ensures.items in
    λ tells.
    let told = subst (λ a. FirstTells f w g.S.Slot.shown a.lifted) (sym c.self.view_is) tells in
    ap (λ ys. records_in f w g.S.Slot.shown (external s.level c.add.new.self ys s.stored)) next.2
    ∙ accepted_same f w g.S.Slot.shown s.level s.loaded c.add.new.self before s.stored c.args.buf first told c.add.ensures.items
    ∙ ap (λ a. records_in f w g.S.Slot.shown a) c.self.view_is

pub returns-clause-rest : goal.returns-clause-rest
returns-clause-rest g c =
    let s = c.self.inside in
    let f = g.R.Record.record_of in
    let w = g.R.Record.WIDTH in
    let first = subst (λ a. Accepts f w g.S.Slot.shown a.lifted c.args.buf) (sym c.self.view_is) c.requires.first in
    let next = accepts f w g.S.Slot.shown s.loaded s.was.value s.accepted s.lifted s.stored s.len c.self.invariant c.args.buf c.add.new.self first c.add.ensures.items in
    ap (λ ys. external s.level c.add.new.self ys s.stored) next.2
    ∙ ap (λ a. external a.level c.add.new.self (drop 1 a.lifted) a.stored) c.self.view_is
