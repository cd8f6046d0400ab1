use Rattle.std.proofs.Common.{◌≡◌, ◌∷◌, ◌++◌, [], take, drop, refl, sym, ap, ap₂, ◌∙◌, subst, arith}
use Rattle.ppq_array.specs.External.{external}
use Rattle.ppq_array.specs.declared.external_array.ExternalArray.TheInside.{Inside}
use Rattle.ppq_array.proofs.Noted.{Ready, Ready-first, Ready-next, lifts}
use Rattle.ppq_array.proofs.external_array.ExternalArray.lift.Goals.{then-self-eq0, else-self-eq0}
use Rattle.ppq_array.proofs.external_array.ExternalArray.lift.Goals as goal
use Rattle.ppq_array.proofs.external_array.ExternalArray.lift.Given as given

-- the first block can be lifted, and nothing that is seen has changed
abbrev IsReady : (g : given.Over) (c : goal.After-count-count g) → Inside g.row.S.Denot g.row.R.Denot → Type 0
IsReady g c i =
    Ready g.R.Record.record_of g.R.Record.WIDTH g.S.Slot.shown i.loaded i.was.value i.accepted i.lifted i.stored i.len (take c.self.inside.lifted (drop c.self.inside.accepted c.self.inside.was.value))
    × (i.level ≡ c.self.inside.level) × (i.loaded ≡ c.self.inside.loaded)

ready : (g : given.Over) (c : goal.After-count-count g) → IsReady g c c.if-self-eq0.self-inside
ready g c =
    let s = c.self.inside in
    let f = g.R.Record.record_of in
    let w = g.R.Record.WIDTH in
    elim c.if-self-eq0.branch [
      | then-self-eq0 v ↦
          subst (IsReady g c) (sym v.self-inside-is) (
            subst (λ was. Ready f w g.S.Slot.shown s.loaded was 0 s.lifted s.stored s.len (take s.lifted (drop s.accepted s.was.value))) (sym v.of.ensures)
                (Ready-first f w g.S.Slot.shown s.loaded s.was.value s.accepted s.lifted s.stored s.len c.self.invariant v.if-self-eq0.true),
            refl,
            refl,
          )
      | else-self-eq0 v ↦
          subst (IsReady g c) (sym v.self-inside-is)
          (Ready-next f w g.S.Slot.shown s.loaded s.was.value s.accepted s.lifted s.stored s.len c.self.invariant (omega (arith, v.if-self-eq0.false)), refl, refl)
    ]

first : (g : given.Over) (c : goal.After-count-count g) → c.if-self-eq0.self-inside.stored ≡ c.unwrap-berth.result ∷ c.pop_front.new.self
first g c = rw c.unwrap-berth.ensures at c.pop_front.ensures.first

pub invariant_of-self : goal.invariant_of-self
invariant_of-self g c =
    let i = c.if-self-eq0.self-inside in
    (lifts g.R.Record.record_of g.R.Record.WIDTH g.S.Slot.shown i.loaded i.was.value i.accepted i.lifted i.stored i.len (take c.self.inside.lifted (drop c.self.inside.accepted c.self.inside.was.value)) (ready g c).0 c.unwrap-berth.result c.pop_front.new.self (first g c)).0

pub returns-clause-labelled : goal.returns-clause-labelled
returns-clause-labelled g c =
    let i = c.if-self-eq0.self-inside in
    (lifts g.R.Record.record_of g.R.Record.WIDTH g.S.Slot.shown i.loaded i.was.value i.accepted i.lifted i.stored i.len (take c.self.inside.lifted (drop c.self.inside.accepted c.self.inside.was.value)) (ready g c).0 c.unwrap-berth.result c.pop_front.new.self (first g c)).2

pub returns-clause-rest : goal.returns-clause-rest
returns-clause-rest g c =
    let i = c.if-self-eq0.self-inside in
    let s = c.self.inside in
    let is = ready g c in
    let next = lifts g.R.Record.record_of g.R.Record.WIDTH g.S.Slot.shown i.loaded i.was.value i.accepted i.lifted i.stored i.len (take s.lifted (drop s.accepted s.was.value)) is.0 c.unwrap-berth.result c.pop_front.new.self (first g c) in
    ap (λ l. external i.level i.loaded l c.pop_front.new.self) next.1
    ∙ ap₂ (λ l r. external l r (take s.lifted (drop s.accepted s.was.value) ++ c.unwrap-berth.result ∷ []) c.pop_front.new.self) is.1 is.2
    ∙ ap (λ a. external a.level a.loaded (a.lifted ++ c.unwrap-berth.result ∷ []) c.pop_front.new.self) c.self.view_is
