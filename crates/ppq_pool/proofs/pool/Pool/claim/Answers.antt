use Rattle.std.proofs.Common.{◌≡◌, ℕ, ◌+◌, ◌<◌, arith, refl, sym, ap, ◌∙◌, subst, ◌∷◌, [], All, None}
use Rattle.std.proofs.lemmas.List.Elements.{All-push}
use Rattle.atomic_table.specs.Table.{rest}
use Rattle.ppq_table.specs.declared.place.Place.TheVariants.{Item, Empty}
use Rattle.ppq_table.specs.Sums.{times}
use Rattle.ppq_table.proofs.Numbers.{times-append, times-same}
use Rattle.ppq_pool.specs.declared.hand.Hand.{Hand}
use Rattle.ppq_pool.specs.Hands.{with_claim, with_place, last_moment}
use Rattle.ppq_pool.specs.Rule.{claimed_at}
use Rattle.ppq_pool.proofs.Steps.{claims, settles, back, topped}
use Rattle.ppq_pool.proofs.pool.Pool.claim.Goals as goal

pub swap-requires : goal.swap-requires
swap-requires g c = let same = ap (λ z. z.slots) c.self.view_is in let inside : c.args.number + 1 < c.self.inside.table.shared.table_id.slots = omega (arith, c.requires.number, same) in (
  ap (λ k. k.pool) c.seat.view_is ∙ c.requires.pool ∙ sym c.self.view_is,
  omega (arith, inside, c.self.invariant.0),
  claims _ _ _ _ c.seat.inside.seat.me c.args.number c.seat.invariant.part c.seat.invariant.free inside,
)

pub exchange-requires : goal.exchange-requires
exchange-requires g c = let i : ℕ = c.args.number in let told = subst (λ (j : ℕ). claimed_at g.T.Shaped.shape_of j c.seat.inside.seat.me c.swap.result c.swap.new.seat.me) (back i) c.swap.ensures.2 in
    let t = told.0 c.if-swap-ne0.false in (c.swap.ensures.0 ∙ ap (λ k. k.pool) c.seat.view_is ∙ c.requires.pool ∙ sym c.self.view_is, (Item t.0, topped _ _ i (Item t.0) t.4))

pub swap-requires-in-Item : goal.swap-requires-in-Item
swap-requires-in-Item g c = let i : ℕ = c.args.number in let v : Hand g.row.T.Denot = c.seat.inside.seat.me.0 in
    let told = subst (λ (j : ℕ). claimed_at g.T.Shaped.shape_of j c.seat.inside.seat.me c.swap.result c.swap.new.seat.me) (back i) c.swap.ensures.2 in
    let t = told.0 c.if-swap-ne0.false in let now = c.exchange.ensures.3 in let e : c.exchange.new.seat.me.0 ≡ with_claim (last_moment c.swap.new.seat.me.0) i v = ap (λ m. m.0) now ∙ t.3 in
    let same = ap (λ z. z.slots) c.self.view_is in let inside : i + 1 < c.self.inside.table.shared.table_id.slots = omega (arith, c.requires.number, same) in (
      c.exchange.ensures.0 ∙ c.swap.ensures.0 ∙ ap (λ k. k.pool) c.seat.view_is ∙ c.requires.pool ∙ sym c.self.view_is,
      omega (arith, inside, c.self.invariant.0),
      settles _ _ _ _ c.exchange.new.seat.me i (subst (λ (w : Hand g.row.T.Denot). 0 < w.shares) (sym e) c.seat.invariant.part)
          (subst (λ (w : Hand g.row.T.Denot). 0 < times i w.numbers) (sym e) (omega (arith, times-append i v.numbers (i ∷ []), times-same i i refl)))
          (ap (λ (w : Hand g.row.T.Denot). w.in_hand) e) (topped _ _ i Empty (ap (λ m. m.1) now)) inside,
    )

pub invariant_of-seat-in-Item : goal.invariant_of-seat-in-Item
invariant_of-seat-in-Item g c = let i : ℕ = c.args.number in let s = c.seat.inside.seat in let v : Hand g.row.T.Denot = s.me.0 in
    let told = subst (λ (j : ℕ). claimed_at g.T.Shaped.shape_of j s.me c.swap.result c.swap.new.seat.me) (back i) c.swap.ensures.2 in
    let t = told.0 c.if-swap-ne0.false in let now = c.exchange.ensures.3 in let end = c.swap-in-Item.ensures in
    let e : c.swap-in-Item.new.seat.me.0 ≡ with_place None (with_claim (last_moment c.swap.new.seat.me.0) i v) = end.2.0 ∙ ap (with_place None) (ap (λ m. m.0) now ∙ t.3) in
    let same : s.table_id ≡ c.swap-in-Item.new.seat.table_id = sym (end.0 ∙ c.exchange.ensures.0 ∙ c.swap.ensures.0) in
    let pool : s.table_id ≡ c.args.self.now = ap (λ k. k.pool) c.seat.view_is ∙ c.requires.pool in let slots = ap (λ z. z.slots) pool in record {
      part = subst (λ (w : Hand g.row.T.Denot). 0 < w.shares) (sym e) c.seat.invariant.part;
      free = ap (λ (w : Hand g.row.T.Denot). w.in_hand) e;
      bare = end.2.1 ∙ ap rest (ap (λ m. m.1) now) ∙ ap rest t.4 ∙ c.seat.invariant.bare;
      in_range = subst (λ z. All (λ k. k + 1 < z.slots) c.swap-in-Item.new.seat.me.0.numbers) same (subst (λ (w : Hand g.row.T.Denot). All (λ k. k + 1 < s.table_id.slots) w.numbers) (sym e)
          (All-push (λ k. k + 1 < s.table_id.slots) v.numbers i c.seat.invariant.in_range (omega (arith, c.requires.number, slots))));
    }
