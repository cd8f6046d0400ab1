use Rattle.ppq_pool.proofs.Holding.{Takes-keeps, FoundHeld-keeps}
use Rattle.ppq_base_tests.proofs.pool.three_takes_of_two_tiles_give_both_and_then_none.Goals as goal

pub give-requires-clause-holds : goal.give-requires-clause-holds
give-requires-clause-holds g c = let s = c.in-Some-Some-None in FoundHeld-keeps _ _ _ _ s.ensures''.none (Takes-keeps _ _ _ _ s.ensures'.taken s.ensures.holds)
