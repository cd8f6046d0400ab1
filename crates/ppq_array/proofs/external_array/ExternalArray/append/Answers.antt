use Rattle.std.proofs.Common.{◌≡◌, ◌+◌, ◌<◌, ◌-◌, ◌^◌, [], length, take, drop, sym, ap, ◌∙◌, subst}
use Rattle.ppq_array.specs.External.{IsLabelled}
use Rattle.ppq_array.specs.ExternalParts.{IsExternal}
use Rattle.ppq_array.proofs.Noted.{appends}
use Rattle.ppq_array.proofs.external_array.ExternalArray.append.Goals as goal

pub invariant_of-self : goal.invariant_of-self
invariant_of-self g c =
    let s = c.self.inside in
    let f = g.R.Record.record_of in
    let w = g.R.Record.WIDTH in
    let b = c.label.new.self in
    let none : take s.lifted (drop s.accepted s.was.value) ≡ [] = ap (λ a. a.lifted) c.self.view_is ∙ c.requires.none_lifted in
    let room = subst (λ a. length a.stored < 2 ^ 32 - 1) (sym c.self.view_is) c.requires.room in
    let count : c.from.result ≡ b.count = c.from.ensures ∙ sym (ap (λ d. d.count) c.label.ensures) in
    let next = appends f w g.S.Slot.shown s.loaded s.was.value s.accepted s.lifted s.stored s.len c.self.invariant none b (subst (IsLabelled f w g.S.Slot.shown) (sym c.label.ensures) c.requires.labelled) room in
    subst (λ k. IsExternal f w g.S.Slot.shown s.loaded s.was.value s.accepted s.lifted c.push_back.new.self (s.len + k)) (sym count)
    (subst (λ ys. IsExternal f w g.S.Slot.shown s.loaded s.was.value s.accepted s.lifted ys (s.len + b.count)) (sym c.push_back.ensures) next)
