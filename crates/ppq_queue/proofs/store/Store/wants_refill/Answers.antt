use Rattle.std.proofs.Common.{arith}
use Rattle.ppq_queue.proofs.store.Store.wants_refill.Goals as goal

pub has_run-requires-after_bounds : goal.has_run-requires-after_bounds
has_run-requires-after_bounds g c = assumption

pub returns-then-not-is_empty : goal.returns-then-not-is_empty
returns-then-not-is_empty g c = record { empty = grind arith; some = grind arith; ready = grind arith }

pub returns-then-is_some : goal.returns-then-is_some
returns-then-is_some g c = record { empty = grind arith; some = omega arith; ready = grind arith }

pub returns-else-is_some : goal.returns-else-is_some
returns-else-is_some g c = record { empty = grind arith; some = omega arith; ready = grind arith }
