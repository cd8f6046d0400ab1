use Rattle.std.proofs.Common.{◌≡◌, ℕ, ◌+◌, ◌<◌, arith, sym, ap, ◌∙◌, subst, All, Some}
use Rattle.atomic_table.specs.Table.{rest}
use Rattle.ppq_table.specs.declared.place.Place.TheVariants.{Item, Empty}
use Rattle.ppq_table.specs.Sums.{times}
use Rattle.ppq_table.proofs.Numbers.{times_in}
use Rattle.ppq_pool.specs.declared.hand.Hand.{Hand}
use Rattle.ppq_pool.specs.Hands.{with_place, with_give, last_moment}
use Rattle.ppq_pool.specs.Rule.{reached_at, cleared_at}
use Rattle.ppq_pool.proofs.Lists.{All-without}
use Rattle.ppq_pool.proofs.Steps.{reaches, clears, back, topped}
use Rattle.ppq_pool.proofs.pool.Pool.give.Goals as goal

pub swap-requires : goal.swap-requires
swap-requires g c = let i : ℕ = c.args.number in let s = c.seat.inside.seat in let pool = ap (λ k. k.pool) c.seat.view_is ∙ c.requires.pool ∙ sym c.self.view_is in
    let holds : 0 < times i s.me.0.numbers = subst (λ (h : Hand g.row.T.Denot). 0 < times i h.numbers) (sym (ap (λ k. k.hand) c.seat.view_is)) c.requires.holds in
    let inside : i + 1 < c.self.inside.table.shared.table_id.slots = subst (λ z. i + 1 < z.slots) pool (times_in (λ k. k + 1 < s.table_id.slots) i s.me.0.numbers holds c.seat.invariant.in_range) in
    (pool, omega (arith, inside, c.self.invariant.0), reaches _ _ _ _ s.me i c.seat.invariant.part holds c.seat.invariant.free inside)

pub exchange-requires : goal.exchange-requires
exchange-requires g c = let i : ℕ = c.args.number in let told = subst (λ (j : ℕ). reached_at j c.seat.inside.seat.me c.swap.new.seat.me) (back i) c.swap.ensures.2 in
    (c.swap.ensures.0 ∙ ap (λ k. k.pool) c.seat.view_is ∙ c.requires.pool ∙ sym c.self.view_is, (Empty, topped _ _ i Empty told.1))

pub swap-requires-2 : goal.swap-requires-2
swap-requires-2 g c = let i : ℕ = c.args.number in let s = c.seat.inside.seat in let pool = ap (λ k. k.pool) c.seat.view_is ∙ c.requires.pool ∙ sym c.self.view_is in let hand = ap (λ k. k.hand) c.seat.view_is in
    let holds : 0 < times i s.me.0.numbers = subst (λ (h : Hand g.row.T.Denot). 0 < times i h.numbers) (sym hand) c.requires.holds in
    let inside : i + 1 < c.self.inside.table.shared.table_id.slots = subst (λ z. i + 1 < z.slots) pool (times_in (λ k. k + 1 < s.table_id.slots) i s.me.0.numbers holds c.seat.invariant.in_range) in
    let told = subst (λ (j : ℕ). reached_at j s.me c.swap.new.seat.me) (back i) c.swap.ensures.2 in
    let now = c.exchange.ensures.3 in let e : c.exchange.new.seat.me.0 ≡ with_place (Some i) s.me.0 = ap (λ m. m.0) now ∙ told.0 in (
      c.exchange.ensures.0 ∙ c.swap.ensures.0 ∙ pool,
      omega (arith, inside, c.self.invariant.0),
      clears _ _ _ _ c.exchange.new.seat.me i c.args.item (subst (λ (w : Hand g.row.T.Denot). 0 < w.shares) (sym e) c.seat.invariant.part) (subst (λ (w : Hand g.row.T.Denot). 0 < times i w.numbers) (sym e) holds)
          (ap (λ (w : Hand g.row.T.Denot). w.in_hand) e) (topped _ _ i (Item c.args.item) (ap (λ m. m.1) now)) (c.requires.shape ∙ sym (ap (λ (w : Hand g.row.T.Denot). w.shape) (e ∙ ap (with_place (Some i)) hand))) inside,
    )

pub invariant_of-seat : goal.invariant_of-seat
invariant_of-seat g c = let i : ℕ = c.args.number in let s = c.seat.inside.seat in let v : Hand g.row.T.Denot = s.me.0 in
    let told = subst (λ (j : ℕ). reached_at j s.me c.swap.new.seat.me) (back i) c.swap.ensures.2 in let now = c.exchange.ensures.3 in
    let end = subst (λ (j : ℕ). cleared_at j c.exchange.new.seat.me c.swap-2.new.seat.me) (back i) c.swap-2.ensures.2 in
    let e : c.swap-2.new.seat.me.0 ≡ with_give (last_moment c.swap-2.new.seat.me.0) i c.args.item v = end.0 c.args.item (topped _ _ i (Item c.args.item) (ap (λ m. m.1) now)) ∙ ap (with_give (last_moment c.swap-2.new.seat.me.0) i c.args.item) (ap (λ m. m.0) now ∙ told.0) in
    let same : s.table_id ≡ c.swap-2.new.seat.table_id = sym (c.swap-2.ensures.0 ∙ c.exchange.ensures.0 ∙ c.swap.ensures.0) in record {
      part = subst (λ (w : Hand g.row.T.Denot). 0 < w.shares) (sym e) c.seat.invariant.part;
      free = ap (λ (w : Hand g.row.T.Denot). w.in_hand) e;
      bare = end.1 ∙ ap rest (ap (λ m. m.1) now) ∙ ap rest told.1 ∙ c.seat.invariant.bare;
      in_range = subst (λ z. All (λ k. k + 1 < z.slots) c.swap-2.new.seat.me.0.numbers) same (subst (λ (w : Hand g.row.T.Denot). All (λ k. k + 1 < s.table_id.slots) w.numbers) (sym e)
          (All-without (λ k. k + 1 < s.table_id.slots) i v.numbers c.seat.invariant.in_range));
    }
