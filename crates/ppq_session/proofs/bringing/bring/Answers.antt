use Rattle.std.proofs.Common.{◌≡◌, ◌++◌, ◌∷◌, ◌∙◌, [], true, ap, ap₂, sym, subst, refl, arith, append-nil}
use Rattle.std.proofs.lemmas.Bool.{or_left, or_right}
use Rattle.std.proofs.lemmas.List.Elements.{All-nil, All-cons, All-head}
use Rattle.std.proofs.lemmas.List.Concat.{flat_map-cons}
use Rattle.ppq_pass.specs.Passed.{holding_of}
use Rattle.ppq_pass.specs.PassState.{IsPassed, IsSoundPass, IsPassCounted}
use Rattle.ppq_session.specs.Passes.{IsBrought}
use Rattle.ppq_session.specs.Bringing.{IsShareOf}
use Rattle.ppq_session.specs.declared.brought.Brought.{Brought}
use Rattle.ppq_session.proofs.bringing.bring.Goals as goal

pub join-requires : goal.join-requires
join-requires g c =
    let of = All-head (IsShareOf c.args.shared.now c.args.parts.now.sizes) c.args.pass [] c.requires.of in
    record { row = (c.requires.row, ap (λ p. p.key.row) c.into_parts-heap.ensures.shows ∙ of.row) }

pub join-requires-2 : goal.join-requires-2
join-requires-2 g c =
    let of = All-head (IsShareOf c.args.shared.now c.args.parts.now.sizes) c.args.pass [] c.requires.of in
    record { pool = (c.requires.pool, ap (λ p. p.key.pool) c.into_parts-heap.ensures.shows ∙ of.pool) }

pub returns-clause-brought : goal.returns-clause-brought
returns-clause-brought g c =
    let shown = g.S.Slot.shown in
    let record_of = g.R.Record.record_of in
    let width = g.R.Record.WIDTH in
    let cmp = g.R.Ord.cmp in
    let n = c.args.parts.now.sizes in
    let held = c.into_parts-heap.result in
    let e = c.into_parts-heap.ensures in
    let kept = c.of-kept.ensures in
    let of = All-head (IsShareOf c.args.shared.now n) c.args.pass [] c.requires.of in
    let sizes = of.sizes in
    let old = c.args.parts.now in
    let one : Brought g.row.S.Denot g.row.R.Denot =
    record { heap = held.heap; body = held.body; stash = held.parts.stash; kept = c.of-kept.result; begun = held.begun; accepted = held.accepted; stores = held.stores; refused = held.refused; failed = held.failed }
    in
    let row = c.join.ensures in
    let pool = c.join-2.ensures in
    let is : IsBrought shown record_of width n cmp one =
    record {
      always = subst (λ m. IsPassed shown width m held.heap held.body one.kept.value held.refused held.failed) sizes (subst (λ k. IsPassed shown width c.args.pass.key.sizes held.heap held.body k held.refused held.failed) (sym kept) e.always);
      sound = λ none.
          subst (λ m. IsSoundPass shown cmp record_of width m held.heap held.body one.kept.value held.begun held.accepted held.refused) sizes
          (subst (λ k. IsSoundPass shown cmp record_of width c.args.pass.key.sizes held.heap held.body k held.begun held.accepted held.refused) (sym kept) (e.sound (sym (ap (λ p. p.failed) e.shows) ∙ none)));
      stash = sym (ap (λ k. k.stash) kept);
      counted =
          subst (λ m. IsPassCounted shown m held.heap held.body one.kept.value held.begun held.accepted held.stores held.failed) sizes
          (subst (λ k. IsPassCounted shown c.args.pass.key.sizes held.heap held.body k held.begun held.accepted held.stores held.failed) (sym kept) e.counted);
    }
    in
    record {
      brought = one ∷ [];
      items = c.push_reserved.ensures.items;
      passes_are = ap (λ p. p ∷ []) (ap₂ (λ m k. holding_of shown record_of width m held.heap held.body k held.begun held.accepted held.refused held.failed held.stores) (sym sizes) kept ∙ e.shows);
      each = All-cons (IsBrought shown record_of width n cmp) one [] is (All-nil (IsBrought shown record_of width n cmp));
      row = row.row ∙ sym c.requires.row;
      row_items = ap (λ h. h.items) row.both;
      row_shares = omega (arith, ap (λ h. h.shares) row.both, ap (λ p. p.key.row_shares) e.shows, of.row_share);
      places = ap (λ h. h.places) row.both ∙ ap (λ l. old.row_seat.hand.places ++ l) (ap (λ k. k.row_seat.hand.places) (sym kept) ∙ sym (flat_map-cons (λ (x : Brought g.row.S.Denot g.row.R.Denot). x.kept.value.row_seat.hand.places) one [] ∙ append-nil one.kept.value.row_seat.hand.places));
      noted = All-cons (λ (x : Brought g.row.S.Denot g.row.R.Denot). x.kept.value.row_seat.hand.noted ≡ true → c.join.new.seat.hand.noted ≡ true) one [] (λ noted. ap (λ h. h.noted) row.both ∙ or_right old.row_seat.hand.noted held.parts.row_seat.hand.noted (sym (ap (λ k. k.row_seat.hand.noted) kept) ∙ noted)) (All-nil (λ (x : Brought g.row.S.Denot g.row.R.Denot). x.kept.value.row_seat.hand.noted ≡ true → c.join.new.seat.hand.noted ≡ true));
      noted_still = λ noted. ap (λ h. h.noted) row.both ∙ or_left old.row_seat.hand.noted held.parts.row_seat.hand.noted noted;
      pool = pool.pool ∙ sym c.requires.pool;
      pool_shape = ap (λ h. h.shape) pool.both;
      pool_shares = omega (arith, ap (λ h. h.shares) pool.both, ap (λ p. p.key.pool_shares) e.shows, of.pool_share);
      numbers = ap (λ h. h.numbers) pool.both ∙ ap (λ l. old.pool_seat.hand.numbers ++ l) (ap (λ k. k.pool_seat.hand.numbers) (sym kept) ∙ sym (flat_map-cons (λ (x : Brought g.row.S.Denot g.row.R.Denot). x.kept.value.pool_seat.hand.numbers) one [] ∙ append-nil one.kept.value.pool_seat.hand.numbers));
      rest = refl;
    }
