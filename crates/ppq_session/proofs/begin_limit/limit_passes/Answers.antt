use Rattle.std.proofs.Common.{◌≡◌, ◌+◌, ◌∷◌, ◌++◌, [], All, length, sym, ap, ◌∙◌, subst, arith, length-append}
use Rattle.std.proofs.lemmas.List.Elements.{All-push}
use Rattle.ppq_pass.specs.Passed.{PassHolding}
use Rattle.ppq_session.specs.BulkSession.{IsFresh}
use Rattle.ppq_session.specs.Limited.{LimitHolding, HoldsNothing}
use Rattle.ppq_session.specs.LimitSession.{IsNew}
use Rattle.ppq_session.proofs.Equipping.{all_front, all_last}
use Rattle.ppq_session.proofs.begin_limit.limit_passes.Goals as goal

pub limiting-preserved : goal.limiting-preserved
limiting-preserved g c =
    let i = c.limiting.invariant in
    let pass = c.in-Some.pass in
    let rest = c.pop.new.self.items in
    let list = c.limiting.list.items in
    let passes : c.limiting.passes.items ≡ rest ++ pass ∷ [] = c.in-Some.ensures.items in
    let x = c.of.result in
    let made = c.of.ensures in
    let all : c.push_reserved.new.self.items ≡ list ++ x ∷ [] = c.push_reserved.ensures.items in
    let long : length c.push_reserved.new.self.items ≡ length list + 1 = omega (arith, ap length all, length-append list (x ∷ [])) in
    let left : length c.limiting.passes.items ≡ length rest + 1 = omega (arith, ap length passes, length-append rest (pass ∷ [])) in
    let nothing = all_last HoldsNothing rest pass (subst (All HoldsNothing) passes i.nothing) in
    let fresh = all_last IsFresh rest pass (subst (All IsFresh) passes i.fresh) in
    let limited = λ (p : LimitHolding g.row.S.Denot g.row.R.Denot). p.limit ≡ c.args.limit in
    record {
      count = omega (arith, i.count, long, left);
      nothing = all_front HoldsNothing rest pass (subst (All HoldsNothing) passes i.nothing);
      fresh = all_front IsFresh rest pass (subst (All IsFresh) passes i.fresh);
      new = subst (All IsNew) (sym all) (All-push IsNew list x i.new (subst IsNew (sym made) (record { nothing = nothing; fresh = fresh })));
      limits = subst (All limited) (sym all) (All-push limited list x i.limits (ap (λ p. p.limit) made));
      keys = λ key h.
          let has = i.keys key h in
          let mine = λ (p : PassHolding g.row.S.Denot g.row.R.Denot). p.key ≡ key in
          let theirs = λ (p : LimitHolding g.row.S.Denot g.row.R.Denot). p.pass.key ≡ key in (
            all_front mine rest pass (subst (All mine) passes has.0),
            subst (All theirs) (sym all) (All-push theirs list x has.1 (ap (λ p. p.pass.key) made ∙ all_last mine rest pass (subst (All mine) passes has.0))),
          );
      room = omega (arith, i.room, long, left, c.push_reserved.ensures.capacity);
    }

pub returns : goal.returns
returns g c =
    let i = c.limiting.invariant in
    record { count = omega (arith, i.count, c.in_default.ensures.cases); new = i.new; limits = i.limits; keys = λ key h. (i.keys key h).1 }
