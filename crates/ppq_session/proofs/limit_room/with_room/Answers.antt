use Rattle.std.proofs.Common.{◌≡◌, ◌∙◌, Option, ℕ, Some, None, inl, inr, [], refl, sym, subst}
use Rattle.ppq_session.specs.Apart.{IsApart}
use Rattle.ppq_session.proofs.Fronted.{front_apart, emptied_apart, few_buffers}
use Rattle.ppq_session.proofs.limit_room.with_room.Goals as goal

pub emptied-requires-after_bounds : goal.emptied-requires-after_bounds
emptied-requires-after_bounds g c = λ κs bounds. few_buffers g.S.Slot.shown g.R.Record.WIDTH c.args.parts c.requires.1.out

pub returns-in-None : goal.returns-in-None
returns-in-None g c =
    let can = c.requires.1 in
    record { apart = front_apart g.S.Slot.shown g.R.Record.WIDTH c.args.parts c.requires.0 c.args.failed can.out can.tallied (can.room c.in-None.is); same = λ none. refl; idle = []; is = inl refl }

pub returns-in-Some : goal.returns-in-Some
returns-in-Some g c =
    let q = c.args.parts in
    let can = c.requires.1 in
    let e = c.emptied.ensures in
    record {
      apart = subst (λ p. IsApart g.S.Slot.shown g.R.Record.WIDTH p c.args.failed) (sym e.rest) (emptied_apart g.S.Slot.shown g.R.Record.WIDTH q c.requires.0 c.args.failed c.emptied.result.body.lanes.idle e.idle can.out can.tallied);
      same = λ none. absurd (let odd : ◌≡◌ {A = Option ℕ} None (Some c.in-Some.field-0) = sym none ∙ c.in-Some.is in cc);
      idle = c.emptied.result.body.lanes.idle;
      is = inr e.rest;
    }
