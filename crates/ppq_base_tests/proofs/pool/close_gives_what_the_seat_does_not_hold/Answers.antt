use Rattle.ppq_pool.proofs.Holding.{Takes-keeps}
use Rattle.ppq_base_tests.proofs.pool.close_gives_what_the_seat_does_not_hold.Goals as goal

pub give-requires-clause-holds : goal.give-requires-clause-holds
give-requires-clause-holds g c = let s = c.in-Some-Some in Takes-keeps _ _ _ _ s.ensures'.taken s.ensures.holds
