use Rattle.std.proofs.Common.{◌≡◌, ◌++◌, ◌∷◌, ◌∙◌, [], All, length, map, reverse, ap, sym, subst, refl, arith, length-append}
use Rattle.std.proofs.lemmas.List.{length-map, nil_from_length}
use Rattle.std.proofs.lemmas.List.Elements.{All-nil, All-cons, All-head}
use Rattle.ppq_pass.proofs.ppq_array.Noted.{all_left, all_right}
use Rattle.ppq_session.specs.Passes.{pass_of}
use Rattle.ppq_session.specs.Bringing.{BroughtAll, IsShareOf}
use Rattle.ppq_session.specs.SessionPass.{KeepsLimit}
use Rattle.ppq_session.proofs.Brings.{Came, came-none, came-more}
use Rattle.ppq_session.proofs.Mapped.{all_mapped}
use Rattle.ppq_session.proofs.bringing.bring_all.Goals as goal

pub bringing-init : goal.bringing-init
bringing-init g c =
    let shown = g.S.Slot.shown in
    let cmp = g.R.Ord.cmp in
    let pass_in = g.P.SessionPass.pass in
    record {
      came = came-none shown g.R.Record.record_of g.R.Record.WIDTH c.args.parts.now.sizes cmp pass_in (λ p. KeepsLimit shown cmp (g.P.SessionPass.limit p) (pass_in p)) c.args.passes.items c.args.parts.now;
      of = all_mapped pass_in (IsShareOf c.args.shared.now c.args.parts.now.sizes) c.args.passes.items c.requires.of;
      room = refl;
      capacity = refl;
    }

pub bring-requires-after_bounds : goal.bring-requires-after_bounds
bring-requires-after_bounds g c = λ κs bounds.
    let P = λ (p : g.row.P.Denot). IsShareOf c.args.shared.now c.args.parts.now.sizes (g.P.SessionPass.pass p) in
    let i = c.bringing.invariant in
    let pass = c.in-Some.pass in
    let all = subst (λ l. All P l) c.in-Some.ensures.items i.of in
    let here = All-head P pass [] (all_right P c.pop.new.self.items (pass ∷ []) all) in
    let its = IsShareOf c.args.shared.now c.bringing.parts.sizes in
    let is = subst (λ n. IsShareOf c.args.shared.now n c.into_inner.result) (sym (ap (λ q. q.sizes) i.came.is.rest)) (subst (IsShareOf c.args.shared.now c.args.parts.now.sizes) (sym c.into_inner.ensures.pass) here) in
    record {
      row = i.came.is.row ∙ c.requires.row;
      pool = i.came.is.pool ∙ c.requires.pool;
      of = All-cons its c.into_inner.result [] is (All-nil its);
      room = omega (arith, i.room, i.capacity, c.requires.room, length-map c.args.passes.items g.P.SessionPass.pass, ap length c.in-Some.ensures.items, length-append c.pop.new.self.items (pass ∷ []));
    }

pub bringing-preserved : goal.bringing-preserved
bringing-preserved g c =
    let shown = g.S.Slot.shown in
    let record_of = g.R.Record.record_of in
    let width = g.R.Record.WIDTH in
    let cmp = g.R.Ord.cmp in
    let pass_in = g.P.SessionPass.pass in
    let kept = λ (p : g.row.P.Denot). KeepsLimit shown cmp (g.P.SessionPass.limit p) (pass_in p) in
    let P = λ (p : g.row.P.Denot). IsShareOf c.args.shared.now c.args.parts.now.sizes (pass_in p) in
    let i = c.bringing.invariant in
    let a = c.args.parts.now in
    let b = c.bringing.parts in
    let d = c.bring.new.parts in
    let n = a.sizes in
    let rest = c.pop.new.self.items in
    let pass = c.in-Some.pass in
    let e = c.in-Some.ensures.items in
    let got = c.into_inner.ensures in
    let one = subst (λ m. BroughtAll shown record_of width m cmp (c.into_inner.result ∷ []) b d) (ap (λ q. q.sizes) i.came.is.rest) c.bring.ensures.brought in
    let there = subst (λ l. Came shown record_of width n cmp pass_in kept c.args.passes.items l a b) e i.came in
    record {
      came = came-more shown record_of width n cmp pass_in kept c.args.passes.items rest pass c.into_inner.result a b d there got.pass (subst (KeepsLimit shown cmp (g.P.SessionPass.limit pass)) got.pass got.limit) one;
      of = all_left P rest (pass ∷ []) (subst (λ l. All P l) e i.of);
      room = omega (arith, i.room, ap length e, length-append rest (pass ∷ []), ap length one.items, length-append b.brought.items one.brought, ap length one.passes_are, length-map one.brought (pass_of shown record_of width n));
      capacity = c.bring.ensures.capacity ∙ i.capacity;
    }

pub returns : goal.returns
returns g c =
    let shown = g.S.Slot.shown in
    let cmp = g.R.Ord.cmp in
    let a = c.args.parts.now in
    let i = c.bringing.invariant.came in
    let none : length c.bringing.passes.items ≡ 0 = omega (arith, c.in_default.ensures.cases) in
    let all = sym (i.parts ∙ ap (λ l. l ++ i.came) (nil_from_length c.bringing.passes.items none)) in
    record {
      brought = subst (λ l. BroughtAll shown g.R.Record.record_of g.R.Record.WIDTH a.sizes cmp (reverse (map g.P.SessionPass.pass l)) a c.bringing.parts) all i.is;
      limits = subst (All (λ p. KeepsLimit shown cmp (g.P.SessionPass.limit p) (g.P.SessionPass.pass p))) all i.kept;
    }
