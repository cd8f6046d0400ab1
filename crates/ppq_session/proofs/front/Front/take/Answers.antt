use Rattle.std.proofs.Common.{◌+◌, ◌-◌, ◌∙◌, length, refl, ap, sym, subst, arith, length-drop}
use Rattle.ppq_session.specs.Fronts.{IsReady}
use Rattle.ppq_pass.proofs.ppq_spill.Heads.{some_first}
use Rattle.ppq_session.proofs.Moved.{first_none, held-taken, takes-first}
use Rattle.ppq_session.proofs.front.Front.take.Goals as goal

pub invariant_of-self : goal.invariant_of-self
invariant_of-self g c =
    let s = c.self.inside in
    let q = s.parts in
    let none = first_none q.extract.items (sym c.pop.ensures.first ∙ c.in-None.is) in
    held-taken g.S.Slot.shown g.R.Record.WIDTH q c.pop.new.self q.count c.pop.ensures.rest g.R.Ord.cmp g.R.Record.record_of s.limit s.popped s.popped s.failed c.self.invariant refl
    (λ sound. omega (arith, (c.self.invariant.2 sound).counted, ap length none, length-drop 1 q.extract.items))

pub invariant_of-self-in-Some : goal.invariant_of-self-in-Some
invariant_of-self-in-Some g c =
    let s = c.self.inside in
    let q = s.parts in
    let some = some_first q.extract.items c.in-Some.first (sym c.pop.ensures.first ∙ c.in-Some.is) in
    let so = c.self.invariant.2 (ap (λ f. f.failed) c.self.view_is ∙ c.requires.sound) in
    held-taken g.S.Slot.shown g.R.Record.WIDTH q c.pop.new.self (q.count - 1) c.pop.ensures.rest g.R.Ord.cmp g.R.Record.record_of s.limit s.popped (s.popped + 1) s.failed c.self.invariant (omega (arith, some, so.counted))
    (λ sound. omega (arith, so.counted, some, length-drop 1 q.extract.items))

pub returns-in-None : goal.returns-in-None
returns-in-None g c =
    let q = c.self.inside.parts in
    let s = c.self.inside in
    let laws = c.record_laws.ensures in
    let so = c.self.invariant.2 (ap (λ f. f.failed) c.self.view_is ∙ c.requires.sound) in
    let ready = subst (λ f. IsReady g.R.Ord.cmp f) (sym c.self.view_is) c.requires.ready in
    takes-first g.S.Slot.shown g.R.Record.WIDTH q c.pop.new.self q.count c.pop.ensures.rest g.R.Ord.cmp g.R.Record.record_of s.limit so laws.order laws.same s.popped s.popped s.failed ready _ c.args.self.now c.self.view_is (sym c.in-None.is ∙ c.pop.ensures.first) (omega arith) refl

pub returns-in-Some : goal.returns-in-Some
returns-in-Some g c =
    let q = c.self.inside.parts in
    let s = c.self.inside in
    let laws = c.record_laws.ensures in
    let so = c.self.invariant.2 (ap (λ f. f.failed) c.self.view_is ∙ c.requires.sound) in
    let ready = subst (λ f. IsReady g.R.Ord.cmp f) (sym c.self.view_is) c.requires.ready in
    let some = some_first q.extract.items c.in-Some.first (sym c.pop.ensures.first ∙ c.in-Some.is) in
    takes-first g.S.Slot.shown g.R.Record.WIDTH q c.pop.new.self (q.count - 1) c.pop.ensures.rest g.R.Ord.cmp g.R.Record.record_of s.limit so laws.order laws.same s.popped (s.popped + 1) s.failed ready _ c.args.self.now c.self.view_is (sym c.in-Some.is ∙ c.pop.ensures.first) (omega arith) (omega (arith, some, so.counted))
