use Rattle.std.proofs.Common.{◌≡◌, ◌-◌, ◌+◌, ℕ, All, length, sym, ap, ◌∙◌, arith, subst}
use Rattle.std.specs.Slots.{slots_items, slots_counts}
use Rattle.ppq_table.specs.Sums.{all_shares}
use Rattle.ppq_pool.specs.declared.hand.Hand.{Hand}
use Rattle.ppq_pool.specs.Seats.{IsLeft}
use Rattle.ppq_pool.proofs.Ends.{ends}
use Rattle.ppq_pool.proofs.pool.Pool.close.Goals as goal

pub items_from-requires-clause-room : goal.items_from-requires-clause-room
items_from-requires-clause-room g c = let n : ℕ = c.args.self.slots - 1 in let v = c.seat.inside.seat.me.0 in let ps = slots_items c.close_with.result.slots in
    let only : v.shares ≡ all_shares = ap (λ k. k.hand.shares) c.seat.view_is ∙ c.requires.only in
    let wide : length ps ≡ n + 1 = omega (arith, slots_counts c.close_with.result.slots, c.close_with.ensures.counts, ap (λ z. z.slots) c.self.view_is, c.self.invariant.1) in
    (n, (ends g.T.Shaped.shape_of _ _ v _ ps n only c.seat.invariant.free wide c.close_with.ensures.values.2).room)

pub returns-clause-left : goal.returns-clause-left
returns-clause-left g c = let n : ℕ = c.args.self.slots - 1 in let v = c.seat.inside.seat.me.0 in let ps = slots_items c.close_with.result.slots in
    let only : v.shares ≡ all_shares = ap (λ k. k.hand.shares) c.seat.view_is ∙ c.requires.only in
    let wide : length ps ≡ n + 1 = omega (arith, slots_counts c.close_with.result.slots, c.close_with.ensures.counts, ap (λ z. z.slots) c.self.view_is, c.self.invariant.1) in
    let e = ends g.T.Shaped.shape_of _ _ v _ ps n only c.seat.invariant.free wide c.close_with.ensures.values.2 in
    subst (λ (h : Hand g.row.T.Denot). IsLeft n h c.items_from.result.items) (ap (λ k. k.hand) c.seat.view_is) (subst (IsLeft n v) (sym (c.items_from.ensures n e.room)) e.left)

pub returns-clause-count : goal.returns-clause-count
returns-clause-count g c = let n : ℕ = c.args.self.slots - 1 in let v = c.seat.inside.seat.me.0 in let ps = slots_items c.close_with.result.slots in
    let only : v.shares ≡ all_shares = ap (λ k. k.hand.shares) c.seat.view_is ∙ c.requires.only in
    let wide : length ps ≡ n + 1 = omega (arith, slots_counts c.close_with.result.slots, c.close_with.ensures.counts, ap (λ z. z.slots) c.self.view_is, c.self.invariant.1) in
    let e = ends g.T.Shaped.shape_of _ _ v _ ps n only c.seat.invariant.free wide c.close_with.ensures.values.2 in
    omega (arith, e.count, ap length (c.items_from.ensures n e.room), c.items_from.result.ok, ap (λ k. length k.hand.numbers) c.seat.view_is)

pub returns-clause-shape : goal.returns-clause-shape
returns-clause-shape g c = let n : ℕ = c.args.self.slots - 1 in let v = c.seat.inside.seat.me.0 in let ps = slots_items c.close_with.result.slots in
    let only : v.shares ≡ all_shares = ap (λ k. k.hand.shares) c.seat.view_is ∙ c.requires.only in
    let wide : length ps ≡ n + 1 = omega (arith, slots_counts c.close_with.result.slots, c.close_with.ensures.counts, ap (λ z. z.slots) c.self.view_is, c.self.invariant.1) in
    let e = ends g.T.Shaped.shape_of _ _ v _ ps n only c.seat.invariant.free wide c.close_with.ensures.values.2 in
    subst (λ (k : ℕ). All (λ x. g.T.Shaped.shape_of x ≡ k) c.items_from.result.items) (ap (λ k. k.hand.shape) c.seat.view_is) (subst (All (λ x. g.T.Shaped.shape_of x ≡ v.shape)) (sym (c.items_from.ensures n e.room)) e.shaped)
