use Rattle.std.proofs.Common.{◌≡◌, ◌∙◌, ◌++◌, ◌↔◌, List, All, IsTrue, false, length, take, drop, sym, ap, subst}
use Rattle.std.specs.Prelude.{Any}
use Rattle.ppq_session.specs.Dealing.{IsGoing, HasEnded, MayAdd, EachAdds, Dealt, part_for}
use Rattle.ppq_queue.specs.Holding.{Holding}
use Rattle.ppq_session.specs.Sessions.{InSession}
use Rattle.ppq_session.proofs.Sessions.{kept_back, may-add, session-deal}
use Rattle.ppq_session.proofs.session.Session.deal.Goals as goal

pub deal-requires-clause-may : goal.deal-requires-clause-may
deal-requires-clause-may g c κs within =
    let inside = c.self.inside in
    let going = subst (λ l. All IsGoing l.passes) (sym c.self.view_is) c.requires.going in
    subst (MayAdd inside.shared) (sym c.as_mut_slice.ensures.value) (may-add inside.bulk inside.passes.items c.self.invariant.0 inside.shared c.self.invariant.1 c.known.ensures.range going)

pub returns : goal.returns
returns g c =
    let shown = g.S.Slot.shown in
    let inside = c.self.inside in
    let olds = inside.passes.items in
    let news = c.deal.new.passes in
    let view = c.self.view_is in
    let more = g.M.Maker.rest c.args.maker.now in
    let records = part_for (length olds) more in
    let after = take inside.passes.len (news ++ drop (length news) olds) in
    let back = kept_back inside.passes.len news (drop (length news) olds) (c.deal.auto.passes ∙ c.as_mut_slice.ensures.len) in
    let going = subst (λ l. All IsGoing l.passes) (sym view) c.requires.going in
    let dealt = subst (λ ps. Dealt shown more ps news) c.as_mut_slice.ensures.value c.deal.ensures.dealt in
    let each = subst (λ ps. EachAdds shown (part_for (length ps) more) ps news) c.as_mut_slice.ensures.value c.deal.ensures.each in
    record {
      all = subst (λ ps. IsTrue c.deal.result ↔ All IsGoing ps) (sym back) c.deal.ensures.all;
      ended = subst (λ ps. c.deal.result ≡ false → Any HasEnded ps) (sym back) c.deal.ensures.ended;
      session = subst (λ old. (queue : Holding g.row.R.Denot) → (records : List g.row.R.Denot) → InSession shown queue records old → InSession shown queue (records ++ more) (record { bulk = inside.bulk; passes = after })) view
          (λ queue records s.
          subst (λ ps. InSession shown queue (records ++ more) (record { bulk = inside.bulk; passes = ps })) (sym back)
          (session-deal shown queue records more inside.bulk olds news s going dealt));
      each = subst (λ old. EachAdds shown (part_for (length old.passes) more) old.passes after) view (subst (λ ps. EachAdds shown records olds ps) (sym back) each);
      bulk = ap (λ old. old.bulk) view;
    }
