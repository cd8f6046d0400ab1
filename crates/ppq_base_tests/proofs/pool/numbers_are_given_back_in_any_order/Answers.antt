use Rattle.std.proofs.Common.{sym, subst}
use Rattle.ppq_pool.specs.Hands.{last_moment}
use Rattle.ppq_pool.specs.Seats.{Holds}
use Rattle.ppq_pool.proofs.Holding.{Takes-keeps, Takes-apart, with_give-keeps}
use Rattle.ppq_base_tests.proofs.pool.numbers_are_given_back_in_any_order.Goals as goal

pub give-requires-clause-holds : goal.give-requires-clause-holds
give-requires-clause-holds g c = let s = c.in-Some-Some-Some in Takes-keeps _ _ _ _ s.ensures''.taken s.ensures'.holds

pub give-requires-2-clause-holds : goal.give-requires-2-clause-holds
give-requires-2-clause-holds g c = let s = c.in-Some-Some-Some in subst (λ h. Holds h s.c) (sym c.give.ensures.given)
    (with_give-keeps c.take-3.new.seat.hand (last_moment c.give.new.seat.hand) s.b s.c s.y (Takes-keeps _ _ _ _ s.ensures''.taken s.ensures'.holds) (λ e. Takes-apart _ _ _ _ s.ensures''.taken s.ensures'.holds (sym e)) s.ensures''.holds)

pub give-requires-3-clause-holds : goal.give-requires-3-clause-holds
give-requires-3-clause-holds g c = let s = c.in-Some-Some-Some in let v = c.take-3.new.seat.hand in let w = c.give.new.seat.hand in
    let b = Takes-keeps _ _ _ _ s.ensures''.taken s.ensures'.holds in let a = Takes-keeps _ _ _ _ s.ensures'.taken s.ensures.holds in
    let first = with_give-keeps v (last_moment w) s.b s.a s.y b (Takes-apart _ _ _ _ s.ensures'.taken s.ensures.holds) (Takes-keeps _ _ _ _ s.ensures''.taken a) in
    let last = with_give-keeps v (last_moment w) s.b s.c s.y b (λ e. Takes-apart _ _ _ _ s.ensures''.taken s.ensures'.holds (sym e)) s.ensures''.holds in
    subst (λ h. Holds h s.a) (sym c.give-2.ensures.given) (with_give-keeps w (last_moment c.give-2.new.seat.hand) s.c s.a s.z (subst (λ h. Holds h s.c) (sym c.give.ensures.given) last) (Takes-apart _ _ _ _ s.ensures''.taken a) (subst (λ h. Holds h s.a) (sym c.give.ensures.given) first))
