use Rattle.std.proofs.Common.{◌≡◌, ◌-◌, sym, ◌∙◌, subst}
use Rattle.ppq_array.specs.ExternalParts.{IsExternal}
use Rattle.ppq_array.proofs.Noted.{gives_up}
use Rattle.ppq_array.proofs.external_array.ExternalArray.give_up.Goals as goal

pub invariant_of-self-in-Some : goal.invariant_of-self-in-Some
invariant_of-self-in-Some g c =
    let s = c.self.inside in
    let f = g.R.Record.record_of in
    let w = g.R.Record.WIDTH in
    let b = c.in-Some.berth in
    let count : c.from.result ≡ b.count = c.from.ensures ∙ c.count.ensures in
    let next = gives_up f w g.S.Slot.shown s.loaded s.was.value s.accepted s.lifted s.stored s.len c.self.invariant b c.pop_back.new.self c.in-Some.ensures.last in
    subst (λ k. IsExternal f w g.S.Slot.shown s.loaded s.was.value s.accepted s.lifted c.pop_back.new.self (s.len - k)) (sym count) next.0
