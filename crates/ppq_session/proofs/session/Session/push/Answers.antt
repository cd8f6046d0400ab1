use Rattle.std.proofs.Common.{◌≡◌, ℕ, ◌∙◌, ◌++◌, ◌↔◌, List, All, IsTrue, false, length, take, drop, sym, ap, subst}
use Rattle.std.specs.Prelude.{Any}
use Rattle.ppq_session.specs.Dealing.{IsGoing, HasEnded, MayAdd, EachAdds, Dealt, records_in, records_for}
use Rattle.ppq_queue.specs.Holding.{Holding}
use Rattle.ppq_session.specs.Sessions.{InSession}
use Rattle.ppq_session.proofs.Sessions.{kept_back, may-add, session-deal}
use Rattle.ppq_session.proofs.session.Session.push.Goals as goal

pub push_lines-requires-clause-may : goal.push_lines-requires-clause-may
push_lines-requires-clause-may g c κs within =
    let inside = c.self.inside in
    let going = subst (λ l. All IsGoing l.passes) (sym c.self.view_is) c.requires.going in
    subst (MayAdd inside.shared) (sym c.as_mut_slice.ensures.value) (may-add inside.bulk inside.passes.items c.self.invariant.0 inside.shared c.self.invariant.1 c.known.ensures.range going)

pub returns : goal.returns
returns g c =
    let shown = g.S.Slot.shown in
    let inside = c.self.inside in
    let olds = inside.passes.items in
    let news = c.push_lines.new.passes in
    let view = c.self.view_is in
    let more = records_in c.args.lines.now in
    let records = λ (pass : ℕ). records_for pass c.args.lines.now in
    let after = take inside.passes.len (news ++ drop (length news) olds) in
    let back = kept_back inside.passes.len news (drop (length news) olds) (c.push_lines.auto.passes ∙ c.as_mut_slice.ensures.len) in
    let going = subst (λ l. All IsGoing l.passes) (sym view) c.requires.going in
    let dealt = subst (λ ps. Dealt shown more ps news) c.as_mut_slice.ensures.value c.push_lines.ensures.dealt in
    let each = subst (λ ps. EachAdds shown records ps news) c.as_mut_slice.ensures.value c.push_lines.ensures.each in
    record {
      all = subst (λ ps. IsTrue c.push_lines.result ↔ All IsGoing ps) (sym back) c.push_lines.ensures.all;
      ended = subst (λ ps. c.push_lines.result ≡ false → Any HasEnded ps) (sym back) c.push_lines.ensures.ended;
      session = subst (λ old. (queue : Holding g.row.R.Denot) → (records : List g.row.R.Denot) → InSession shown queue records old → InSession shown queue (records ++ more) (record { bulk = inside.bulk; passes = after })) view
          (λ queue records s.
          subst (λ ps. InSession shown queue (records ++ more) (record { bulk = inside.bulk; passes = ps })) (sym back)
          (session-deal shown queue records more inside.bulk olds news s going dealt));
      each = subst (λ old. EachAdds shown (records) old.passes after) view (subst (λ ps. EachAdds shown records olds ps) (sym back) each);
      bulk = ap (λ old. old.bulk) view;
    }
