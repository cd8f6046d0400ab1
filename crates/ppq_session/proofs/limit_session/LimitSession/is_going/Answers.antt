use Rattle.std.proofs.Common.{inl, All, sym, ◌∙◌, subst}
use Rattle.std.specs.List.{Any}
use Rattle.std.proofs.lemmas.List.Elements.{All-map}
use Rattle.ppq_session.specs.Dealing.{IsGoing, HasEnded}
use Rattle.ppq_session.specs.Limited.{LimitHolding}
use Rattle.ppq_session.specs.LimitSessions.{AreGoing, HasStopped}
use Rattle.ppq_session.proofs.Mapped.{any_mapped}
use Rattle.ppq_session.proofs.limit_session.LimitSession.is_going.Goals as goal

pub returns-in-None-clause-all : goal.returns-in-None-clause-all
returns-in-None-clause-all g c =
    let passes = c.self.inside.passes.items in
    λ t.
    let going = subst (All (λ (p : LimitHolding g.row.S.Denot g.row.R.Denot). IsGoing p.pass)) c.as_slice.ensures.value (c.limited_are_going.ensures.all.0 t) in
    subst (λ l. AreGoing l) c.self.view_is (record { passes = All-map IsGoing (λ (p : LimitHolding g.row.S.Denot g.row.R.Denot). p.pass) passes going; front = sym c.failed.ensures ∙ c.in-None.is })

pub returns-in-None-clause-stopped : goal.returns-in-None-clause-stopped
returns-in-None-clause-stopped g c =
    let passes = c.self.inside.passes.items in
    λ f.
    let ended = subst (Any (λ (p : LimitHolding g.row.S.Denot g.row.R.Denot). HasEnded p.pass)) c.as_slice.ensures.value (c.limited_are_going.ensures.ended f) in
    subst (λ l. HasStopped l) c.self.view_is (inl (any_mapped (λ (p : LimitHolding g.row.S.Denot g.row.R.Denot). p.pass) HasEnded passes ended))
